-- Two nodes whose lists share no entry can be hidden in either order.
use Rattle.std.proofs.Common.{◌≡◌, ℕ, ◌⊎◌, inl, inr, List, refl, sym, ap, ◌∙◌}
use Rattle.cover_links.specs.declared.entry.TableEntry.{TableEntry}
use Rattle.cover_links.specs.Entries.{entry_at, changed, one_less, to_up, to_down, unlinked}
use Rattle.cover_links.specs.Hiding.{node_hidden}
use Rattle.cover_links.proofs.EntryLemmas.{at_other, changed_swap}

-- what hiding q reads or writes: the node, its neighbours and its head
abbrev pub IsTouched : List TableEntry → ℕ → ℕ → Type 0
IsTouched es q x = (x ≡ q) ⊎ ((x ≡ (entry_at es q).up) ⊎ ((x ≡ (entry_at es q).down) ⊎ (x ≡ (entry_at es q).top)))

-- nothing is touched by both
abbrev pub AreApart : List TableEntry → ℕ → ℕ → Type 0
AreApart es q r = (x y : ℕ) → IsTouched es q x → IsTouched es r y → x ≡ y → ⊥

-- a node between u and d leaves the list of the item t
abbrev left_out : List TableEntry → ℕ → ℕ → ℕ → List TableEntry
left_out es u d t = changed one_less (changed (to_up u) (changed (to_down d) es u) d) t

left_out_is : (es : List TableEntry) (q : ℕ) → node_hidden es q ≡ left_out es (entry_at es q).up (entry_at es q).down (entry_at es q).top
unfolding node_hidden unlinked
left_out_is es q = refl

-- a change elsewhere may come after it
change_after : (f : TableEntry → TableEntry) (es : List TableEntry) (z u d t : ℕ) → (z ≡ u → ⊥) → (z ≡ d → ⊥) → (z ≡ t → ⊥) → left_out (changed f es z) u d t ≡ changed f (left_out es u d t) z
change_after f es z u d t a b c =
    ap (λ fs. changed one_less (changed (to_up u) fs d) t) (changed_swap (to_down d) f es z u a)
    ∙ ap (λ fs. changed one_less fs t) (changed_swap (to_up u) f (changed (to_down d) es u) z d b)
    ∙ changed_swap one_less f (changed (to_up u) (changed (to_down d) es u) d) z t c

-- an entry that hiding q doesn't touch
untouched : (es : List TableEntry) (q x : ℕ) → ((y : ℕ) → IsTouched es q y → x ≡ y → ⊥) → entry_at (node_hidden es q) x ≡ entry_at es x
untouched es q x ne =
    let u = (entry_at es q).up in let d = (entry_at es q).down in let t = (entry_at es q).top in
    ap (λ fs. entry_at fs x) (left_out_is es q)
    ∙ at_other one_less (changed (to_up u) (changed (to_down d) es u) d) t x (ne t (inr (inr (inr refl))))
    ∙ at_other (to_up u) (changed (to_down d) es u) d x (ne d (inr (inr (inl refl)))) ∙ at_other (to_down d) es u x (ne u (inr (inl refl)))

hidden_after : (es : List TableEntry) (q r : ℕ) → entry_at (node_hidden es q) r ≡ entry_at es r
    → node_hidden (node_hidden es q) r ≡ left_out (left_out es (entry_at es q).up (entry_at es q).down (entry_at es q).top) (entry_at es r).up (entry_at es r).down (entry_at es r).top
hidden_after es q r same = left_out_is (node_hidden es q) r ∙ (λ i. left_out (left_out_is es q i) (same i).up (same i).down (same i).top)

pub hide_swap : (es : List TableEntry) (q r : ℕ) → AreApart es q r → node_hidden (node_hidden es q) r ≡ node_hidden (node_hidden es r) q
hide_swap es q r apart =
    hidden_after es q r (untouched es q r (λ y m e. apart y r m (inl refl) (sym e)))
    ∙ change_after one_less (changed (to_up u) (changed (to_down d) es u) d) t u' d' t' (at_top u' above) (at_top d' below) (at_top t' head)
    ∙ ap (λ fs. changed one_less fs t) (change_after (to_up u) (changed (to_down d) es u) d u' d' t' (at_down u' above) (at_down d' below) (at_down t' head))
    ∙ ap (λ fs. changed one_less (changed (to_up u) fs d) t) (change_after (to_down d) es u u' d' t' (at_up u' above) (at_up d' below) (at_up t' head))
    ∙ sym (hidden_after es r q (untouched es r q (λ y m e. apart q y (inl refl) m e)))
  where
    u : ℕ
    u = (entry_at es q).up

    d : ℕ
    d = (entry_at es q).down

    t : ℕ
    t = (entry_at es q).top

    u' : ℕ
    u' = (entry_at es r).up

    d' : ℕ
    d' = (entry_at es r).down

    t' : ℕ
    t' = (entry_at es r).top

    above : IsTouched es r u'
    above = inr (inl refl)

    below : IsTouched es r d'
    below = inr (inr (inl refl))

    head : IsTouched es r t'
    head = inr (inr (inr refl))

    at_up : (y : ℕ) → IsTouched es r y → u ≡ y → ⊥
    at_up y = apart u y (inr (inl refl))

    at_down : (y : ℕ) → IsTouched es r y → d ≡ y → ⊥
    at_down y = apart d y (inr (inr (inl refl)))

    at_top : (y : ℕ) → IsTouched es r y → t ≡ y → ⊥
    at_top y = apart t y (inr (inr (inr refl)))
