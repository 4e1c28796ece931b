-- The examples of the definitions, computed on the small problem: c e, a d g, b c f, a d f, b g and d e g.
use Rattle.std.proofs.Common.{◌≡◌, [], ◌∷◌, refl}
use Rattle.cover_problem.specs.Covering.{list_of, remaining}
use Rattle.cover_problem.proofs.CoverExamples.{small}
use Rattle.cover_links.specs.Entries.{entry_at, changed, unlinked, relinked, item_unlinked}
use Rattle.cover_links.specs.Hiding.{node_hidden, node_unhidden, hidden, options_hidden, item_covered}
use Rattle.cover_links.specs.Layout.{start_of, node_index, spacer_of}
use Rattle.cover_links.specs.Fresh.{node_appended, option_appended, fresh}
use Rattle.cover_links.specs.StandsFor.{nodes_of, block_of}

-- the nodes of the option 2 stand at 12 13 14, and the spacer past them at 15
second_option : start_of small 1 ≡ 12
unfolding start_of
second_option = refl

second_spacer : spacer_of small 2 ≡ 15
unfolding start_of
second_spacer = refl

-- the node of g in the option 2
node_of_g : node_index small 7 2 ≡ 14
unfolding start_of
node_of_g = refl

end_of_block : start_of small 6 ≡ 31
unfolding start_of
end_of_block = refl

-- the list of a: the nodes 12 and 20
list_of_a : nodes_of small [] 1 ≡ 12 ∷ 20 ∷ []
unfolding list_of remaining start_of
list_of_a = refl

-- the head of d: three nodes, from 13 to 27
head_of_d : entry_at (block_of small []) 4 ≡ record { top = 3; up = 27; down = 13; left = 3; right = 5 }
unfolding block_of fresh start_of option_appended node_appended node_unhidden relinked changed
head_of_d = refl

-- once a is covered, d has one node, the one of the option 6
head_of_d_after_a : entry_at (block_of small (1 ∷ [])) 4 ≡ record { top = 1; up = 27; down = 27; left = 3; right = 5 }
unfolding block_of fresh start_of option_appended node_appended node_unhidden relinked item_covered item_unlinked options_hidden hidden node_hidden unlinked changed
head_of_d_after_a = refl

-- and the header leads to b
header_after_a : (entry_at (block_of small (1 ∷ [])) 0).right ≡ 2
unfolding block_of fresh start_of option_appended node_appended node_unhidden relinked item_covered item_unlinked options_hidden hidden node_hidden unlinked changed
header_after_a = refl
