-- Lemmas on a change of one entry: what is at that entry, at the others, and in a field that it keeps.
use Rattle.std.proofs.Common.{◌≡◌, ℕ, zero, suc, ◌+◌, ◌*◌, ◌/◌, ◌<◌, List, [], ◌∷◌, length, set, refl, ap, ◌∙◌, arith, length-set}
use Rattle.cover_links.specs.declared.entry.TableEntry.{TableEntry}
use Rattle.cover_links.specs.Entries.{entry_at, low_half, high_half, next_bytes, changed, one_less, one_more, to_up, to_down, unlinked, relinked, item_unlinked, item_relinked}
use Rattle.cover_links.specs.Hiding.{node_hidden, node_unhidden, nodes_hidden, nodes_unhidden, other_nodes, hidden, unhidden}

pub length-changed : (f : TableEntry → TableEntry) (es : List TableEntry) (z : ℕ) → length (changed f es z) ≡ length es
unfolding changed
length-changed f es z = length-set es z (f (entry_at es z))

-- a field that the change keeps
pub kept : (π : TableEntry → ℕ) (f : TableEntry → TableEntry) → ((e : TableEntry) → π (f e) ≡ π e) → (es : List TableEntry) (z x : ℕ) → π (entry_at (changed f es z) x) ≡ π (entry_at es x)
unfolding changed
kept π f h [] z x = refl
kept π f h (e ∷ es) zero zero = h e
kept π f h (e ∷ es) zero (suc x) = refl
kept π f h (e ∷ es) (suc z) zero = refl
kept π f h (e ∷ es) (suc z) (suc x) = kept π f h es z x

-- the entry that is changed
pub at_changed : (f : TableEntry → TableEntry) (es : List TableEntry) (z : ℕ) → z < length es → entry_at (changed f es z) z ≡ f (entry_at es z)
unfolding changed
at_changed f [] z lt = absurd (omega arith)
at_changed f (e ∷ es) zero lt = refl
at_changed f (e ∷ es) (suc z) lt = at_changed f es z (omega arith)

-- any other
pub at_other : (f : TableEntry → TableEntry) (es : List TableEntry) (z x : ℕ) → (x ≡ z → ⊥) → entry_at (changed f es z) x ≡ entry_at es x
unfolding changed
at_other f [] z x ne = refl
at_other f (e ∷ es) zero zero ne = absurd (ne refl)
at_other f (e ∷ es) zero (suc x) ne = refl
at_other f (e ∷ es) (suc z) zero ne = refl
at_other f (e ∷ es) (suc z) (suc x) ne = at_other f es z x (λ h. ne (ap suc h))

pub length-unlinked : (es : List TableEntry) (x : ℕ) → length (unlinked es x) ≡ length es
unfolding unlinked
length-unlinked es x = length-changed _ _ _ ∙ length-changed _ es _

pub length-relinked : (es : List TableEntry) (x : ℕ) → length (relinked es x) ≡ length es
unfolding relinked
length-relinked es x = length-changed _ _ _ ∙ length-changed _ es _

pub length-item_unlinked : (es : List TableEntry) (x : ℕ) → length (item_unlinked es x) ≡ length es
unfolding item_unlinked
length-item_unlinked es x = length-changed _ _ _ ∙ length-changed _ es _

pub length-item_relinked : (es : List TableEntry) (x : ℕ) → length (item_relinked es x) ≡ length es
unfolding item_relinked
length-item_relinked es x = length-changed _ _ _ ∙ length-changed _ es _

pub length-node_hidden : (es : List TableEntry) (q : ℕ) → length (node_hidden es q) ≡ length es
unfolding node_hidden
length-node_hidden es q = length-changed _ _ _ ∙ length-unlinked es q

pub length-node_unhidden : (es : List TableEntry) (q : ℕ) → length (node_unhidden es q) ≡ length es
unfolding node_unhidden
length-node_unhidden es q = length-relinked _ q ∙ length-changed _ es _

pub length-nodes_hidden : (es : List TableEntry) (qs : List ℕ) → length (nodes_hidden es qs) ≡ length es
length-nodes_hidden es [] = refl
length-nodes_hidden es (q ∷ qs) = length-nodes_hidden (node_hidden es q) qs ∙ length-node_hidden es q

pub length-nodes_unhidden : (es : List TableEntry) (qs : List ℕ) → length (nodes_unhidden es qs) ≡ length es
length-nodes_unhidden es [] = refl
length-nodes_unhidden es (q ∷ qs) = length-nodes_unhidden (node_unhidden es q) qs ∙ length-node_unhidden es q

pub length-hidden : (es : List TableEntry) (p : ℕ) → length (hidden es p) ≡ length es
unfolding hidden
length-hidden es p = length-nodes_hidden es (other_nodes es p)

pub length-unhidden : (es : List TableEntry) (p : ℕ) → length (unhidden es p) ≡ length es
unfolding unhidden
length-unhidden es p = length-nodes_unhidden es (other_nodes es p)

-- as many bytes as a number of entries takes
pub times_div : (n : ℕ) → n * 16 / 16 ≡ n
times_div n = omega arith

-- two halves make them again
pub halves_join : (n : ℕ) → low_half n + high_half n * 65536 ≡ n * 16
halves_join n = omega arith

-- hiding a node, and putting it back, keep the links to the next nodes
link_kept : (f : TableEntry → TableEntry) → ((e : TableEntry) → (f e).left ≡ e.left) → ((e : TableEntry) → (f e).right ≡ e.right) → (es : List TableEntry) (z x : ℕ)
    → next_bytes (entry_at (changed f es z) x) ≡ next_bytes (entry_at es x)
link_kept f l r es z x = λ i. kept (λ e. e.left) f l es z x i + kept (λ e. e.right) f r es z x i * 65536

pub hidden_link : (es : List TableEntry) (q x : ℕ) → next_bytes (entry_at (node_hidden es q) x) ≡ next_bytes (entry_at es x)
unfolding node_hidden unlinked
hidden_link es q x =
    link_kept one_less (λ e. refl) (λ e. refl) (unlinked es q) (entry_at es q).top x
    ∙ link_kept (to_up (entry_at es q).up) (λ e. refl) (λ e. refl) (changed (to_down (entry_at es q).down) es (entry_at es q).up) (entry_at es q).down x
    ∙ link_kept (to_down (entry_at es q).down) (λ e. refl) (λ e. refl) es (entry_at es q).up x

pub unhidden_link : (es : List TableEntry) (q x : ℕ) → next_bytes (entry_at (node_unhidden es q) x) ≡ next_bytes (entry_at es x)
unfolding node_unhidden relinked
unhidden_link es q x =
    let fs = changed one_more es (entry_at es q).top in
    link_kept (to_up q) (λ e. refl) (λ e. refl) (changed (to_down q) fs (entry_at fs q).up) (entry_at fs q).down x
    ∙ link_kept (to_down q) (λ e. refl) (λ e. refl) fs (entry_at fs q).up x
    ∙ link_kept one_more (λ e. refl) (λ e. refl) es (entry_at es q).top x

-- two changes of different entries, in either order
pub changed_swap : (f g : TableEntry → TableEntry) (es : List TableEntry) (y z : ℕ) → (y ≡ z → ⊥) → changed f (changed g es y) z ≡ changed g (changed f es z) y
unfolding changed
changed_swap f g [] y z ne = refl
changed_swap f g (e ∷ es) zero zero ne = absurd (ne refl)
changed_swap f g (e ∷ es) zero (suc z) ne = refl
changed_swap f g (e ∷ es) (suc y) zero ne = refl
changed_swap f g (e ∷ es) (suc y) (suc z) ne = ap (λ l. e ∷ l) (changed_swap f g es y z (λ h. ne (ap suc h)))

-- a read, a change and a write change one entry
pub written : (f : TableEntry → TableEntry) (es fs : List TableEntry) (z : ℕ) (e : TableEntry) → fs ≡ set es z (f e) → e ≡ entry_at es z → fs ≡ changed f es z
unfolding changed
written f es fs z e h r = h ∙ ap (λ k. set es z (f k)) r
