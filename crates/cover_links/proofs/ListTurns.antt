-- The options of a list are hidden one after the other, or come back, as many as it has: what is left at each turn.
use Rattle.std.proofs.Common.{◌≡◌, ℕ, zero, suc, ◌+◌, ◌-◌, ◌<◌, ◌≤◌, List, length, refl, sym, ap, ◌∙◌, subst, arith}
use Rattle.cover_links.specs.declared.entry.TableEntry.{TableEntry}
use Rattle.cover_links.specs.Entries.{entry_at}
use Rattle.cover_links.specs.Hiding.{hidden, unhidden, list_hidden, list_unhidden}
use Rattle.cover_links.specs.Safety.{CanHide, CanUnhide, CanHideList, CanUnhideList}
use Rattle.cover_links.proofs.EntryLemmas.{length-hidden, length-unhidden}

-- one option and a list of them, where a link leads from each to the next
pub record Turns (one : List TableEntry → ℕ → List TableEntry) (link : TableEntry → ℕ) (Can : List TableEntry → ℕ → Type 0) (all : List TableEntry → ℕ → ℕ → List TableEntry) (CanAll : List TableEntry → ℕ → ℕ → Type 0) : Type 0 where
  pub same_length : (es : List TableEntry) (q : ℕ) → length (one es q) ≡ length es
  pub here : {es : List TableEntry} {q : ℕ} → Can es q → q < length es
  pub none : (es : List TableEntry) (q : ℕ) → all es q zero ≡ es
  pub more : (es : List TableEntry) (q n : ℕ) → all es q (suc n) ≡ all (one es q) (link (entry_at (one es q) q)) n
  pub can_more : (es : List TableEntry) (q n : ℕ) → CanAll es q (suc n) → Can es q × CanAll (one es q) (link (entry_at (one es q) q)) n

pub hiding : Turns hidden (λ e. e.down) CanHide list_hidden CanHideList
hiding = record { same_length = length-hidden; here = λ can. can.round.here; none = λ es q. refl; more = λ es q n. refl; can_more = λ es q n can. can }

pub unhiding : Turns unhidden (λ e. e.up) CanUnhide list_unhidden CanUnhideList
unhiding = record { same_length = length-unhidden; here = λ can. can.round.here; none = λ es q. refl; more = λ es q n. refl; can_more = λ es q n can. can }

-- n turns are left, from q on
pub record Left (all : List TableEntry → ℕ → ℕ → List TableEntry) (CanAll : List TableEntry → ℕ → ℕ → Type 0) (whole es : List TableEntry) (q n : ℕ) : Type 0 where
  pub rest : all es q n ≡ whole
  pub can : CanAll es q n

module _ {one : List TableEntry → ℕ → List TableEntry} {link : TableEntry → ℕ} {Can : List TableEntry → ℕ → Type 0} {all : List TableEntry → ℕ → ℕ → List TableEntry} {CanAll : List TableEntry → ℕ → ℕ → Type 0} (turns : Turns one link Can all CanAll) where
  pub left_begin : {es fs : List TableEntry} {n : ℕ} (i : ℕ) {head : TableEntry} → fs ≡ es → head ≡ entry_at fs i → n ≡ head.top → CanAll es (link (entry_at es i)) (entry_at es i).top
      → Left all CanAll (all es (link (entry_at es i)) (entry_at es i).top) fs (link head) (n - 0)
  left_begin {es} {fs} {n} i {head} same is count can =
      let now : head ≡ entry_at es i = is ∙ ap (λ gs. entry_at gs i) same in
      let begun : n - 0 ≡ n = omega arith in
      let many : n - 0 ≡ (entry_at es i).top = begun ∙ count ∙ ap (λ (e : TableEntry). e.top) now in
      record {
        rest = λ j. all (same j) (link (now j)) (many j);
        can = subst (λ (w : List TableEntry × TableEntry × ℕ). CanAll w.0 (link w.1) w.2) (λ j. (sym same j, sym now j, sym many j)) can;
      }

  module _ {whole es : List TableEntry} {q n : ℕ} (left : Left all CanAll whole es q n) where
    pub left_none : n ≡ 0 → es ≡ whole
    left_none e = sym (turns.none es q) ∙ ap (all es q) (sym e) ∙ left.rest

    module _ {m : ℕ} (on : n ≡ suc m) where
      both : Can es q × CanAll (one es q) (link (entry_at (one es q) q)) m
      both = turns.can_more es q m (subst (CanAll es q) on left.can)

      pub left_can : Can es q
      left_can = both.0

      pub left_low : {fs : List TableEntry} → fs ≡ one es q → q < length fs
      left_low e = subst (λ k. q < k) (sym (ap length e ∙ turns.same_length es q)) (turns.here both.0)

      pub left_on : {fs : List TableEntry} {node : TableEntry} → fs ≡ one es q → node ≡ entry_at fs q → Left all CanAll whole fs (link node) m
      left_on {fs} {node} e is =
          let to : link node ≡ link (entry_at (one es q) q) = ap link (is ∙ ap (λ gs. entry_at gs q) e) in
          record {
            rest = (λ j. all (e j) (to j) m) ∙ sym (turns.more es q m) ∙ sym (ap (all es q) on) ∙ left.rest;
            can = subst (λ (w : List TableEntry × ℕ). CanAll w.0 w.1 m) (λ j. (sym e j, sym to j)) both.1;
          }

-- of n turns n - i are left after i
pub turn_left : (n i : ℕ) → i < n → n - i ≡ suc (n - (i + 1))
turn_left n i less = omega (arith, less)

pub none_left : (n i : ℕ) → n ≤ i → n - i ≡ 0
none_left n i past = omega (arith, past)
