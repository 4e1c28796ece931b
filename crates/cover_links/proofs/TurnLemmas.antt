-- The loops that go round an option, by the link of each node to the next one: they hide its other nodes, or put them back.
use Rattle.std.proofs.Common.{◌≡◌, ℕ, zero, suc, ◌*◌, ◌/◌, ◌<◌, ◌⊎◌, inl, inr, ◌==◌, true, false, List, [], ◌∷◌, length, refl, sym, ap, ◌∙◌, subst, arith}
use Rattle.std.proofs.lemmas.Bool.{cases_eq, eq-eqb, ne_eqb}
use Rattle.cover_links.specs.declared.entry.TableEntry.{TableEntry}
use Rattle.cover_links.specs.Entries.{entry_at, next_bytes, next_of, next_node, HasNext}
use Rattle.cover_links.specs.Hiding.{node_hidden, node_unhidden, nodes_hidden, nodes_unhidden, until, other_nodes, hidden, unhidden}
use Rattle.cover_links.specs.Safety.{CanHideNode, CanUnhideNode, CanHideNodes, CanUnhideNodes, LeadsTo, GoesRound, CanHide, CanUnhide}
use Rattle.cover_links.proofs.EntryLemmas.{length-node_hidden, length-node_unhidden, hidden_link, unhidden_link}

-- ---- the way round

pub until_here : (link : ℕ → ℕ) (p q n : ℕ) → q ≡ p → until link p q n ≡ []
until_here link p q zero e = refl
until_here link p q (suc n) e = let f : q == p ≡ true = eq-eqb q p e in rw f refl

pub until_on : (link : ℕ → ℕ) (p q n : ℕ) → (q ≡ p → ⊥) → until link p q (suc n) ≡ q ∷ until link p (link q) n
until_on link p q n ne = let f : q == p ≡ false = ne_eqb q p ne in rw f refl

-- a turn more than enough
leads_more : (es : List TableEntry) (p q n : ℕ) → LeadsTo es p q n → LeadsTo es p q (suc n)
leads_more es p q zero e = inl e
leads_more es p q (suc n) (inl e) = inl e
leads_more es p q (suc n) (inr l) = inr (l.0, leads_more es p (next_node es q) n l.1)

until_more : (es : List TableEntry) (p q n : ℕ) → LeadsTo es p q n → until (next_node es) p q (suc n) ≡ until (next_node es) p q n
until_more es p q zero e = until_here (next_node es) p q 1 e
until_more es p q (suc n) l = step (until_more es p (next_node es q) n) (cases_eq q p) l
  where
    step : (LeadsTo es p (next_node es q) n → until (next_node es) p (next_node es q) (suc n) ≡ until (next_node es) p (next_node es q) n) → (q ≡ p) ⊎ (q ≡ p → ⊥) → LeadsTo es p q (suc n)
        → until (next_node es) p q (suc (suc n)) ≡ until (next_node es) p q (suc n)
    step ih (inl e) l = until_here (next_node es) p q (suc (suc n)) e ∙ sym (until_here (next_node es) p q (suc n) e)
    step ih (inr ne) (inl e) = absurd (ne e)
    step ih (inr ne) (inr l) = until_on (next_node es) p q (suc n) ne ∙ ap (λ qs. q ∷ qs) (ih l.1) ∙ sym (until_on (next_node es) p q n ne)

-- what is known at a node on the way, from which the others stand ahead
record IsOn (es : List TableEntry) (p q n : ℕ) : Type 0 where
  pub link : HasNext (entry_at es q)
  pub ahead : until (next_node es) p q n ≡ q ∷ until (next_node es) p (next_node es q) n
  pub leads : LeadsTo es p (next_node es q) n

is_on : (es : List TableEntry) (p q n : ℕ) → (q ≡ p → ⊥) → LeadsTo es p q n → IsOn es p q n
is_on es p q zero ne e = absurd (ne e)
is_on es p q (suc n) ne (inl e) = absurd (ne e)
is_on es p q (suc n) ne (inr l) = record {
  link = l.0;
  ahead = until_on (next_node es) p q n ne ∙ ap (λ qs. q ∷ qs) (sym (until_more es p (next_node es q) n l.1));
  leads = leads_more es p (next_node es q) n l.1;
}

-- ---- the turns

-- what is done to one node, and to a list of them: the links to the next ones are kept
pub record Turns (one : List TableEntry → ℕ → List TableEntry) (Can : List TableEntry → ℕ → Type 0) (all : List TableEntry → List ℕ → List TableEntry) (CanAll : List TableEntry → List ℕ → Type 0) : Type 0 where
  pub same_length : (es : List TableEntry) (q : ℕ) → length (one es q) ≡ length es
  pub same_link : (es : List TableEntry) (q x : ℕ) → next_bytes (entry_at (one es q) x) ≡ next_bytes (entry_at es x)
  pub here : {es : List TableEntry} {q : ℕ} → Can es q → q < length es
  pub none : (es : List TableEntry) → all es [] ≡ es
  pub more : (es : List TableEntry) (q : ℕ) (qs : List ℕ) → all es (q ∷ qs) ≡ all (one es q) qs
  pub can_more : (es : List TableEntry) (q : ℕ) (qs : List ℕ) → CanAll es (q ∷ qs) → Can es q × CanAll (one es q) qs

pub hiding : Turns node_hidden CanHideNode nodes_hidden CanHideNodes
hiding = record { same_length = length-node_hidden; same_link = hidden_link; here = λ can. can.inside.here; none = λ es. refl; more = λ es q qs. refl; can_more = λ es q qs can. can }

pub unhiding : Turns node_unhidden CanUnhideNode nodes_unhidden CanUnhideNodes
unhiding = record { same_length = length-node_unhidden; same_link = unhidden_link; here = λ can. can.here; none = λ es. refl; more = λ es q qs. refl; can_more = λ es q qs can. can }

-- the nodes from q on round to p, in the block as it was
abbrev pub ahead : List TableEntry → ℕ → ℕ → List ℕ
ahead old p q = until (next_node old) p q (length old)

-- how many turns are left
abbrev pub turns_left : List TableEntry → ℕ → ℕ → ℕ
turns_left old p q = length (ahead old p q)

-- the nodes from q on are left to do
pub record Goes (all : List TableEntry → List ℕ → List TableEntry) (CanAll : List TableEntry → List ℕ → Type 0) (whole old es : List TableEntry) (p q : ℕ) : Type 0 where
  pub rest : all es (ahead old p q) ≡ whole
  pub can : CanAll es (ahead old p q)
  pub leads : LeadsTo old p q (length old)
  pub link : (x : ℕ) → next_bytes (entry_at es x) ≡ next_bytes (entry_at old x)

-- ---- where q is not p

pub turns_fall : (old : List TableEntry) (p q : ℕ) → (q ≡ p → ⊥) → LeadsTo old p q (length old) → turns_left old p (next_node old q) < turns_left old p q
turns_fall old p q ne l = let o = is_on old p q (length old) ne l in let e = ap length o.ahead in omega arith

module _ {one : List TableEntry → ℕ → List TableEntry} {Can : List TableEntry → ℕ → Type 0} {all : List TableEntry → List ℕ → List TableEntry} {CanAll : List TableEntry → List ℕ → Type 0} (turns : Turns one Can all CanAll) where
  pub goes_begin : {es : List TableEntry} {p q : ℕ} → GoesRound es p → CanAll es (other_nodes es p) → q ≡ next_node es p → Goes all CanAll (all es (other_nodes es p)) es es p q
  goes_begin {es} {p} {q} round can e = record {
    rest = ap (λ x. all es (ahead es p x)) e;
    can = subst (λ x. CanAll es (ahead es p x)) (sym e) can;
    leads = subst (λ x. LeadsTo es p x (length es)) (sym e) round.leads;
    link = λ x. refl;
  }

  module _ {whole old es : List TableEntry} {p q : ℕ} (goes : Goes all CanAll whole old es p q) where
    pub goes_end : q ≡ p → es ≡ whole
    goes_end e = sym (turns.none es) ∙ ap (all es) (sym (until_here (next_node old) p q (length old) e)) ∙ goes.rest

    module _ (ne : q ≡ p → ⊥) where
      on : IsOn old p q (length old)
      on = is_on old p q (length old) ne goes.leads

      both : Can es q × CanAll (one es q) (ahead old p (next_node old q))
      both = turns.can_more es q (ahead old p (next_node old q)) (subst (CanAll es) (on).ahead goes.can)

      pub goes_can : Can es q
      goes_can = both.0

      module _ {fs : List TableEntry} (is : fs ≡ one es q) where
        same : (x : ℕ) → next_bytes (entry_at fs x) ≡ next_bytes (entry_at old x)
        same x = ap (λ gs. next_bytes (entry_at gs x)) is ∙ turns.same_link es q x ∙ goes.link x

        pub goes_low : q < length fs
        goes_low = subst (λ n. q < n) (sym (ap length is ∙ turns.same_length es q)) (turns.here both.0)

        module _ {node : TableEntry} (read : node ≡ entry_at fs q) where
          bytes : next_bytes node ≡ next_bytes (entry_at old q)
          bytes = ap next_bytes read ∙ same q

          pub goes_link : HasNext node
          goes_link = subst (λ n. n / 16 * 16 ≡ n) (sym bytes) (on).link

          pub goes_on : {to : ℕ} → to ≡ next_of node → Goes all CanAll whole old fs p to
          goes_on {to} at =
              let e : to ≡ next_node old q = at ∙ ap (λ n. n / 16) bytes in
              record {
                rest = (λ i. all (is i) (ahead old p (e i))) ∙ sym (turns.more es q (ahead old p (next_node old q))) ∙ sym (ap (all es) (on).ahead) ∙ goes.rest;
                can = subst (λ (w : List TableEntry × ℕ). CanAll w.0 (ahead old p w.1)) (λ i. (sym is i, sym e i)) both.1;
                leads = subst (λ x. LeadsTo old p x (length old)) (sym e) (on).leads;
                link = same;
              }

          pub goes_down : {to : ℕ} → to ≡ next_of node → turns_left old p to < turns_left old p q
          goes_down {to} at = subst (λ x. turns_left old p x < turns_left old p q) (sym (at ∙ ap (λ n. n / 16) bytes)) (turns_fall old p q ne goes.leads)

pub hide_begin : {es : List TableEntry} {p q : ℕ} → CanHide es p → q ≡ next_node es p → Goes nodes_hidden CanHideNodes (hidden es p) es es p q
unfolding hidden
hide_begin can e = goes_begin hiding can.round can.nodes e

pub unhide_begin : {es : List TableEntry} {p q : ℕ} → CanUnhide es p → q ≡ next_node es p → Goes nodes_unhidden CanUnhideNodes (unhidden es p) es es p q
unfolding unhidden
unhide_begin can e = goes_begin unhiding can.round can.nodes e
