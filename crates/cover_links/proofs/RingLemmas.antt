-- Lemmas on rings: each member has a next and a previous one, and what is left of a ring that a member leaves.
use Rattle.std.proofs.Common.{◌≡◌, ℕ, zero, suc, ◌+◌, ◌<◌, ◌≤◌, ◌⊎◌, inl, inr, ◌==◌, Bool, true, false, not, ◌&&◌, Option, Some, None, unwrap_or, List, length, filter, refl, sym, ap, ◌∙◌, subst, arith}
use Rattle.std.proofs.lemmas.Bool.{false≢true, and_parts, and_from, cases_Bool, cases_eq, cases_lt, eq-eqb, ne_eqb, not-true, not_from_false, both_ways}
use Rattle.shared_words.specs.Lists.{has, numbers, RisesFrom, above, below, last_of}
use Rattle.cover_problem.proofs.MemberLemmas.{has_filter, has_filter_in, filter_agree_on}
use Rattle.cover_problem.proofs.NumberLemmas.{has_numbers, has_numbers_in, rises_filter}
use Rattle.cover_problem.proofs.RisingLemmas.{above_is, above_none, below_is, below_none, last_is, last_none}
use Rattle.cover_links.specs.Ring.{IsNext, Follows, IsRing, but_for}

-- what comes next is a member, or the head
pub next_member : (t : ℕ → Bool) (x y : ℕ) → IsNext t x y → (y ≡ 0) ⊎ (t y ≡ true)
next_member t x y (inl n) = inr n.0
next_member t x y (inr n) = inl n.0

-- ---- a member leaves

pub without_ne : (t : ℕ → Bool) (q k : ℕ) → but_for t q k ≡ true → (t k ≡ true) × (k ≡ q → ⊥)
without_ne t q k h = let a = and_parts (t k) (not (k == q)) h in (a.0, λ e. both_ways (k == q) (not-true (k == q) a.1) (eq-eqb k q e))

pub without_from : (t : ℕ → Bool) (q k : ℕ) → t k ≡ true → (k ≡ q → ⊥) → but_for t q k ≡ true
without_from t q k h ne = and_from (t k) (not (k == q)) h (not_from_false (k == q) (ne_eqb k q ne))

pub without_stays : (t : ℕ → Bool) (q k : ℕ) → (k ≡ q → ⊥) → but_for t q k ≡ t k
without_stays t q k ne = let f : k == q ≡ false = ne_eqb k q ne in rw f (pick (t k))
  where
    pick : (b : Bool) → (b && true) ≡ b
    pick true = refl
    pick false = refl

-- either q stood between x and y, or x and y stood side by side before
abbrev pub StoodBy : (ℕ → Bool) → ℕ → ℕ → ℕ → Type 0
StoodBy t q x y = (Follows t x q × Follows t q y) ⊎ (Follows t x y × (x ≡ q → ⊥) × (y ≡ q → ⊥))

pub left_behind : (t : ℕ → Bool) (q x y : ℕ) → t q ≡ true → 0 < q → Follows (but_for t q) x y → StoodBy t q x y
left_behind t q x y tq pos f = step (cases_lt x q) f.to
  where
    from : (x ≡ 0) ⊎ (but_for t q x ≡ true) → (x ≡ 0) ⊎ (t x ≡ true)
    from (inl e) = inl e
    from (inr h) = inr (without_ne t q x h).0

    other : (x ≡ 0) ⊎ (but_for t q x ≡ true) → x ≡ q → ⊥
    other (inl e) g = absurd (omega arith)
    other (inr h) g = (without_ne t q x h).1 g

    -- a member beyond x is q, or a member still
    beyond : (z : ℕ) → t z ≡ true → (z ≡ q) ⊎ (but_for t q z ≡ true)
    beyond z h = pick (cases_eq z q)
      where
        pick : (z ≡ q) ⊎ (z ≡ q → ⊥) → (z ≡ q) ⊎ (but_for t q z ≡ true)
        pick (inl e) = inl e
        pick (inr ne) = inr (without_from t q z h ne)

    past : q ≤ x → IsNext (but_for t q) x y → StoodBy t q x y
    past le (inl n) = inr (record { from = from f.from; to = inl ((without_ne t q y n.0).0, n.1, λ z h l. least z l (beyond z h)) }, other f.from, λ e. absurd (omega (arith, n.1)))
      where
        least : (z : ℕ) → x < z → (z ≡ q) ⊎ (but_for t q z ≡ true) → y ≤ z
        least z l (inl e) = absurd (omega arith)
        least z l (inr h) = n.2 z h l
    past le (inr n) = inr (record { from = from f.from; to = inr (n.0, λ z h. most z (beyond z h)) }, other f.from, λ e. absurd (omega (arith, n.0)))
      where
        most : (z : ℕ) → (z ≡ q) ⊎ (but_for t q z ≡ true) → z ≤ x
        most z (inl e) = omega arith
        most z (inr h) = n.1 z h

    near : x < q → (but_for t q y ≡ true) × (x < y) × ((z : ℕ) → but_for t q z ≡ true → x < z → y ≤ z) → (y < q) ⊎ (q ≤ y) → StoodBy t q x y
    near lt n (inl l) = inr (record { from = from f.from; to = inl ((without_ne t q y n.0).0, n.1, λ z h m. least z m (beyond z h)) }, other f.from, λ e. absurd (omega arith))
      where
        least : (z : ℕ) → x < z → (z ≡ q) ⊎ (but_for t q z ≡ true) → y ≤ z
        least z m (inl e) = omega arith
        least z m (inr h) = n.2 z h m
    near lt n (inr l) = inl (record { from = from f.from; to = inl (tq, lt, λ z h m. least z m (beyond z h)) }, record { from = inr tq; to = inl ((without_ne t q y n.0).0, after, λ z h m. rest z m (beyond z h)) })
      where
        after : q < y
        after = pick (cases_eq q y)
          where
            pick : (q ≡ y) ⊎ (q ≡ y → ⊥) → q < y
            pick (inl e) = absurd ((without_ne t q y n.0).1 (sym e))
            pick (inr ne) = omega (arith, ne)

        least : (z : ℕ) → x < z → (z ≡ q) ⊎ (but_for t q z ≡ true) → q ≤ z
        least z m (inl e) = omega arith
        least z m (inr h) = let r = n.2 z h m in omega arith

        rest : (z : ℕ) → q < z → (z ≡ q) ⊎ (but_for t q z ≡ true) → y ≤ z
        rest z m (inl e) = absurd (omega arith)
        rest z m (inr h) = n.2 z h (omega arith)

    step : (x < q) ⊎ (q ≤ x) → IsNext (but_for t q) x y → StoodBy t q x y
    step (inr le) n = past le n
    step (inl lt) (inl n) = near lt n (cases_lt y q)
    step (inl lt) (inr n) = inl (record { from = from f.from; to = inl (tq, lt, λ z h m. least z m (beyond z h)) }, record { from = inr tq; to = inr (n.0, λ z h. most z (beyond z h)) })
      where
        least : (z : ℕ) → x < z → (z ≡ q) ⊎ (but_for t q z ≡ true) → q ≤ z
        least z m (inl e) = omega arith
        least z m (inr h) = let r = n.1 z h in absurd (omega arith)

        most : (z : ℕ) → (z ≡ q) ⊎ (but_for t q z ≡ true) → z ≤ q
        most z (inl e) = omega arith
        most z (inr h) = let r = n.1 z h in omega arith

-- the links after the entry at Q has left: the one above it leads past it, and the one below it back
pub record Leaves (next prev next' prev' : ℕ → ℕ) (Q : ℕ) : Type 0 where
  pub to_next : next (prev Q) ≡ Q
  pub to_prev : prev (next Q) ≡ Q
  pub past : next' (prev Q) ≡ next Q
  pub back : prev' (next Q) ≡ prev Q
  pub next_kept : (x : ℕ) → (x ≡ prev Q → ⊥) → next' x ≡ next x
  pub prev_kept : (y : ℕ) → (y ≡ next Q → ⊥) → prev' y ≡ prev y

-- the entry at Q still names its neighbours
pub leaves_next : {next prev next' prev' : ℕ → ℕ} {Q : ℕ} → Leaves next prev next' prev' Q → next' Q ≡ next Q
leaves_next {next} {prev} {next'} {prev'} {Q} l = step (cases_eq Q (prev Q))
  where
    step : (Q ≡ prev Q) ⊎ (Q ≡ prev Q → ⊥) → next' Q ≡ next Q
    step (inl e) = ap next' e ∙ l.past
    step (inr ne) = l.next_kept Q ne

pub leaves_prev : {next prev next' prev' : ℕ → ℕ} {Q : ℕ} → Leaves next prev next' prev' Q → prev' Q ≡ prev Q
leaves_prev l = leaves_next (record { to_next = l.to_prev; to_prev = l.to_next; past = l.back; back = l.past; next_kept = l.prev_kept; prev_kept = l.next_kept })

-- links that neither come from Q nor lead to it are as they were
side_by_side : (next prev next' prev' : ℕ → ℕ) (Q a b : ℕ) → Leaves next prev next' prev' Q → next a ≡ b → prev b ≡ a → (a ≡ Q → ⊥) → (b ≡ Q → ⊥) → (next' a ≡ b) × (prev' b ≡ a)
side_by_side next prev next' prev' Q a b l n p na nb =
    (l.next_kept a (λ e. nb (sym n ∙ ap next e ∙ l.to_next)) ∙ n, l.prev_kept b (λ e. na (sym p ∙ ap prev e ∙ l.to_prev)) ∙ p)

-- a ring without the entry at Q stays as it was
pub ring_kept : (t : ℕ → Bool) (place next prev next' prev' : ℕ → ℕ) (Q : ℕ) → IsRing t place next prev → Leaves next prev next' prev' Q
    → (place 0 ≡ Q → ⊥) → ((x : ℕ) → t x ≡ true → place x ≡ Q → ⊥) → IsRing t place next' prev'
ring_kept t place next prev next' prev' Q r l head apart x y f =
    let s = r x y f in side_by_side next prev next' prev' Q (place x) (place y) l s.0 s.1 (source f.from) (target f.to)
  where
    source : (x ≡ 0) ⊎ (t x ≡ true) → place x ≡ Q → ⊥
    source (inl e) g = head (ap place (sym e) ∙ g)
    source (inr h) g = apart x h g

    target : IsNext t x y → place y ≡ Q → ⊥
    target (inl n) g = apart y n.0 g
    target (inr n) g = head (ap place (sym n.0) ∙ g)

-- the ring that q leaves
pub ring_without : (t : ℕ → Bool) (place next prev next' prev' : ℕ → ℕ) (q : ℕ) → IsRing t place next prev → Leaves next prev next' prev' (place q) → t q ≡ true → 0 < q
    → (place 0 ≡ place q → ⊥) → ((x : ℕ) → t x ≡ true → place x ≡ place q → x ≡ q) → IsRing (but_for t q) place next' prev'
ring_without t place next prev next' prev' q r l tq pos head same x y f = step (left_behind t q x y tq pos f)
  where
    target : Follows t x y → (y ≡ q → ⊥) → place y ≡ place q → ⊥
    target g ne e = pick g.to
      where
        pick : IsNext t x y → ⊥
        pick (inl n) = ne (same y n.0 e)
        pick (inr n) = head (ap place (sym n.0) ∙ e)

    source : Follows t x y → (x ≡ q → ⊥) → place x ≡ place q → ⊥
    source g ne e = pick g.from
      where
        pick : (x ≡ 0) ⊎ (t x ≡ true) → ⊥
        pick (inl z) = head (ap place (sym z) ∙ e)
        pick (inr h) = ne (same x h e)

    step : StoodBy t q x y → (next' (place x) ≡ place y) × (prev' (place y) ≡ place x)
    step (inl (a, b)) =
        let s = r x q a in let u = r q y b in
        (ap next' (sym s.1) ∙ l.past ∙ u.0, ap prev' (sym u.0) ∙ l.back ∙ s.1)
    step (inr (g, nx, ny)) = let s = r x y g in side_by_side next prev next' prev' (place q) (place x) (place y) l s.0 s.1 (source g nx) (target g ny)

-- ---- next and previous ones

module _ (t : ℕ → Bool) (m : ℕ) (within : (z : ℕ) → t z ≡ true → (0 < z) × (z ≤ m)) where
  -- the members, rising
  abbrev pub members : List ℕ
  members = filter t (numbers m 1)

  member : (z : ℕ) → t z ≡ true → has members z ≡ true
  member z h = let w = within z h in has_filter t (numbers m 1) z h (has_numbers m 1 z w.0 (omega arith))

  is_member : (z : ℕ) → has members z ≡ true → t z ≡ true
  is_member z h = (has_filter_in t (numbers m 1) z h).0

  rises : RisesFrom 1 members
  rises = rises_filter t m 1

  look : (a : Option ℕ) → ((k : ℕ) × (a ≡ Some k)) ⊎ (a ≡ None)
  look None = inr refl
  look (Some k) = inl (k, refl)

  pub next_is : (x : ℕ) → (x ≡ 0) ⊎ (t x ≡ true) → Follows t x (unwrap_or (above x members) 0)
  next_is x from = step (look (above x members))
    where
      step : ((k : ℕ) × (above x members ≡ Some k)) ⊎ (above x members ≡ None) → Follows t x (unwrap_or (above x members) 0)
      step (inl k) = let a = above_is x 1 members k.0 rises k.1 in
          rw k.1 (record { from = from; to = inl (is_member k.0 a.member, a.more, λ z h l. a.least z (member z h) l) })
      step (inr e) = rw e (record { from = from; to = inr (refl, λ z h. above_none x members e z (member z h)) })

  pub prev_is : (y : ℕ) → t y ≡ true → Follows t (unwrap_or (below y members) 0) y
  prev_is y ty = step (look (below y members))
    where
      up : (k : ℕ) → ((j : ℕ) → has members j ≡ true → j < y → j ≤ k) → (z : ℕ) → t z ≡ true → k < z → y ≤ z
      up k great z h l = pick (cases_lt z y)
        where
          pick : (z < y) ⊎ (y ≤ z) → y ≤ z
          pick (inl m) = let r = great z (member z h) m in absurd (omega arith)
          pick (inr m) = m

      step : ((k : ℕ) × (below y members ≡ Some k)) ⊎ (below y members ≡ None) → Follows t (unwrap_or (below y members) 0) y
      step (inl k) = let a = below_is y 1 members k.0 rises k.1 in
          rw k.1 (record { from = inr (is_member k.0 a.member); to = inl (ty, a.less, λ z h l. up k.0 a.greatest z h l) })
      step (inr e) = rw e (record { from = inl refl; to = inl (ty, (within y ty).0, λ z h l. below_none y 1 members rises e z (member z h)) })

  pub last_to_head : Follows t (unwrap_or (last_of members) 0) 0
  last_to_head = step (look (last_of members))
    where
      step : ((k : ℕ) × (last_of members ≡ Some k)) ⊎ (last_of members ≡ None) → Follows t (unwrap_or (last_of members) 0) 0
      step (inl k) = let a = last_is 1 members k.0 rises k.1 in
          rw k.1 (record { from = inr (is_member k.0 a.0); to = inr (refl, λ z h. a.1 z (member z h)) })
      step (inr e) = let none = last_none members e in
          rw e (record { from = inl refl; to = inr (refl, λ z h. absurd (false≢true (subst (λ l. has l z ≡ true) none (member z h)))) })

-- ---- how many members

-- one member less
pub count_without : (t : ℕ → Bool) (q n k : ℕ) → t q ≡ true → k ≤ q → q < k + n → suc (length (filter (but_for t q) (numbers n k))) ≡ length (filter t (numbers n k))
count_without t q zero k tq a b = absurd (omega arith)
count_without t q (suc n) k tq a b = step (count_without t q n (suc k) tq) (cases_eq k q) (cases_Bool (t k))
  where
    same : (i : ℕ) → has (numbers n (suc k)) i ≡ true → k ≡ q → but_for t q i ≡ t i
    same i h e = let r = has_numbers_in n (suc k) i h in let f : i == q ≡ false = ne_eqb i q (λ d. absurd (omega arith)) in
        pick (t i) f
      where
        pick : (b : Bool) → i == q ≡ false → (b && not (i == q)) ≡ b
        pick true f = rw f refl
        pick false f = refl

    step : (suc k ≤ q → q < suc k + n → suc (length (filter (but_for t q) (numbers n (suc k)))) ≡ length (filter t (numbers n (suc k)))) → (k ≡ q) ⊎ (k ≡ q → ⊥) → (t k ≡ true) ⊎ (t k ≡ false) → suc (length (filter (but_for t q) (numbers (suc n) k))) ≡ length (filter t (numbers (suc n) k))
    step ih (inl e) (inl h) = let f : k == q ≡ true = eq-eqb k q e in
        rw (h, f) (ap suc (ap length (filter_agree_on (but_for t q) t (numbers n (suc k)) (λ i g. same i g e))))
    step ih (inl e) (inr h) = absurd (both_ways (t k) h (subst (λ z. t z ≡ true) (sym e) tq))
    step ih (inr ne) (inl h) = let f : k == q ≡ false = ne_eqb k q ne in let r = ih (omega (arith, ne)) (omega arith) in
        rw (h, f) (ap suc r)
    step ih (inr ne) (inr h) = let r = ih (omega (arith, ne)) (omega arith) in
        rw h r
