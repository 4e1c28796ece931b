-- Where each step of hiding and of covering stays in the block, and no length falls below 0 or grows too large.
use Rattle.std.specs.Prelude.{ℕ, zero, suc, ◌+◌, ◌<◌, ◌^◌, ◌⊎◌, ◌≡◌, List, [], ◌∷◌, length}
use Rattle.cover_links.specs.declared.entry.TableEntry.{TableEntry}
use Rattle.cover_links.specs.Entries.{entry_at, next_node, HasNext, changed, one_more, unlinked, item_relinked}
use Rattle.cover_links.specs.Fresh.{node_written, node_appended}
use Rattle.cover_links.specs.Hiding.{node_hidden, node_unhidden, other_nodes, hidden, unhidden, options_hidden}
use Rattle.cover_links.specs.Layout.{place_after}

-- x and its neighbours in its vertical list lie in the block
pub record IsInside (es : List TableEntry) (x : ℕ) : Type 0 where
  pub here : x < length es
  pub above : (entry_at es x).up < length es
  pub below : (entry_at es x).down < length es

-- x and its neighbours in the row of active items lie in the block
pub record IsItemInside (es : List TableEntry) (x : ℕ) : Type 0 where
  pub here : x < length es
  pub before : (entry_at es x).left < length es
  pub after : (entry_at es x).right < length es

-- a node can be hidden: its list has a node
pub record CanHideNode (es : List TableEntry) (q : ℕ) : Type 0 where
  pub inside : IsInside es q
  pub item : (entry_at es q).top < length es
  pub some : 0 < (entry_at (unlinked es q) (entry_at es q).top).top

-- a node can come back: the length of its list stays what an offset counts
pub record CanUnhideNode (es : List TableEntry) (q : ℕ) : Type 0 where
  pub here : q < length es
  pub item : (entry_at es q).top < length es
  pub small : (entry_at es (entry_at es q).top).top + 1 < 2 ^ 28
  pub inside : IsInside (changed one_more es (entry_at es q).top) q

-- the nodes of a list can be hidden, one after the other
abbrev pub CanHideNodes : List TableEntry → List ℕ → Type 0
CanHideNodes es [] = Unit {0}
CanHideNodes es (q ∷ qs) = CanHideNode es q × CanHideNodes (node_hidden es q) qs

-- the nodes of a list can come back, one after the other
abbrev pub CanUnhideNodes : List TableEntry → List ℕ → Type 0
CanUnhideNodes es [] = Unit {0}
CanUnhideNodes es (q ∷ qs) = CanUnhideNode es q × CanUnhideNodes (node_unhidden es q) qs

-- from q each node leads to the next one of its option, and in n turns at most to p
abbrev pub LeadsTo : List TableEntry → ℕ → ℕ → ℕ → Type 0
LeadsTo es p q zero = q ≡ p
LeadsTo es p q (suc n) = (q ≡ p) ⊎ (HasNext (entry_at es q) × LeadsTo es p (next_node es q) n)

-- round the option of p each node leads to the next one, and back to p
pub record GoesRound (es : List TableEntry) (p : ℕ) : Type 0 where
  pub here : p < length es
  pub link : HasNext (entry_at es p)
  pub leads : LeadsTo es p (next_node es p) (length es)

-- the others of p's option can be hidden
pub record CanHide (es : List TableEntry) (p : ℕ) : Type 0 where
  pub round : GoesRound es p
  pub nodes : CanHideNodes es (other_nodes es p)

-- the others of p's option can come back
pub record CanUnhide (es : List TableEntry) (p : ℕ) : Type 0 where
  pub round : GoesRound es p
  pub nodes : CanUnhideNodes es (other_nodes es p)

-- the options of n nodes can be hidden, from p down
abbrev pub CanHideList : List TableEntry → ℕ → ℕ → Type 0
CanHideList es p zero = Unit {0}
CanHideList es p (suc n) = CanHide es p × CanHideList (hidden es p) (entry_at (hidden es p) p).down n

-- the options of n nodes can come back, from p up
abbrev pub CanUnhideList : List TableEntry → ℕ → ℕ → Type 0
CanUnhideList es p zero = Unit {0}
CanUnhideList es p (suc n) = CanUnhide es p × CanUnhideList (unhidden es p) (entry_at (unhidden es p) p).up n

-- an item can be covered
pub record CanCoverItem (es : List TableEntry) (i : ℕ) : Type 0 where
  pub small : i < 2 ^ 16
  pub here : i < length es
  pub options : CanHideList es (entry_at es i).down (entry_at es i).top
  pub row : IsItemInside (options_hidden es i) i

-- an item can be uncovered
pub record CanUncoverItem (es : List TableEntry) (i : ℕ) : Type 0 where
  pub small : i < 2 ^ 16
  pub row : IsItemInside es i
  pub options : CanUnhideList (item_relinked es i) (entry_at (item_relinked es i) i).up (entry_at (item_relinked es i) i).top

-- a node can be appended
pub record CanAppendNode (es : List TableEntry) (x i next : ℕ) : Type 0 where
  pub word : length es < 2 ^ 28
  pub here : x < length es
  pub item : i < length es
  pub small : next < 2 ^ 28
  pub into : CanUnhideNode (node_written es x i next) x

-- nodes of these items can be appended, from x on
abbrev pub CanAppendNodes : List TableEntry → ℕ → ℕ → ℕ → List ℕ → Type 0
CanAppendNodes es x start end [] = Unit {0}
CanAppendNodes es x start end (i ∷ items) =
    CanAppendNode es x i (place_after start end x) × CanAppendNodes (node_appended es x i (place_after start end x)) (suc x) start end items

-- an option can be appended
pub record CanAppendOption (es : List TableEntry) (start : ℕ) (option : List ℕ) : Type 0 where
  pub some : 0 < start
  pub end : start + length option < length es
  pub word : start + length option < 2 ^ 28
  pub nodes : CanAppendNodes es start start (start + length option) option
