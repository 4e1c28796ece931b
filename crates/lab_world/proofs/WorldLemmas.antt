-- The fold of events.
use Rattle.std.proofs.Common.{◌≡◌, ℕ, zero, suc, ◌+◌, ◌<◌, ◌≤◌, Option, None, Result, Ok, Err, List, [], ◌∷◌, ◌++◌, length, take, replicate}
use Rattle.std.proofs.Common.{get_or, refl, sym, ap, ap₂, ◌∙◌, subst, arith}
use Rattle.std.specs.Prelude.{All, IfOk, OnErr}
use Rattle.std.proofs.Math.ListN.{set}
use Rattle.std.proofs.lemmas.List.{length-set, length-replicate, take_more, get_or_default, set-get_or}
use Rattle.std.proofs.lemmas.List.Elements.{All-get_or}
use Rattle.lab_book.specs.Tiling.{IsTiling}
use Rattle.lab_book.specs.Book.{BookValue}
use Rattle.lab_world.proofs.TurnLemmas.{world_keeps}
use Rattle.lab_world.specs.declared.event.WorldEvent.{WorldEvent}
use Rattle.lab_world.specs.declared.event.WorldReply.{WorldReply}
use Rattle.lab_world.specs.Worker.{WorkerValue}
use Rattle.lab_world.specs.World.{WorldValue, Turned, turn_of, worker_at, world_step, played, world_replies, IsSeat, IsWorld}

-- ---- folds

played_push : (v : WorldValue) (es : List WorldEvent) (e : WorldEvent) → played v (es ++ e ∷ []) ≡ (world_step (played v es) e).world
played_push v [] e = refl
played_push v (x ∷ xs) e = played_push (world_step v x).world xs e

replies_push : (v : WorldValue) (es : List WorldEvent) (e : WorldEvent)
    → world_replies v (es ++ e ∷ []) ≡ world_replies v es ++ (world_step (played v es) e).reply ∷ []
replies_push v [] e = refl
replies_push v (x ∷ xs) e = ap (λ (rs : List WorldReply). (world_step v x).reply ∷ rs) (replies_push (world_step v x).world xs e)

-- how far the events were played: the world and the replies are those of the fold, and there is a seat for each worker as before
pub record Plays (v : WorldValue) (es : List WorldEvent) (n : ℕ) (w : WorldValue) (rs : List WorldReply) : Type 0 where
  pub world : w ≡ played v (take n es)
  pub replies : rs ≡ world_replies v (take n es)
  pub workers : length w.workers ≡ length v.workers
  pub count : length rs ≡ n

pub begins : (v : WorldValue) (es : List WorldEvent) (rs : List WorldReply) → rs ≡ [] → Plays v es 0 v rs
begins v es rs e = record { world = refl; replies = e; workers = refl; count = ap {B = ℕ} length e }

length-push : (rs : List WorldReply) (r : WorldReply) → length (rs ++ r ∷ []) ≡ length rs + 1
length-push [] r = refl
length-push (x ∷ xs) r = let h = length-push xs r in omega arith

pub plays_more : (v : WorldValue) (es : List WorldEvent) (i : ℕ) (e : WorldEvent) (w u : WorldValue) (rs : List WorldReply) (r : WorldReply)
    → Plays v es i w rs → i < length es → e ≡ get_or es i e → r ≡ (world_step w e).reply → u ≡ (world_step w e).world
    → Plays v es (i + 1) u (rs ++ r ∷ [])
plays_more v es i e w u rs r p l g a b =
    let more : take (i + 1) es ≡ take i es ++ e ∷ [] = take_more es i e l ∙ ap (λ (x : WorldEvent). take i es ++ x ∷ []) (sym g) in
    let long = length-set w.workers e.worker (turn_of w.book (worker_at w.workers e.worker) e.worker e.act).worker in
    let k = ap (λ (v : WorldValue). length v.workers) b in
    let m = p.workers in
    let c = length-push rs r in
    let d = p.count in
    record {
      world = b ∙ ap (λ (x : WorldValue). (world_step x e).world) p.world ∙ sym (played_push v (take i es) e) ∙ ap (played v) (sym more);
      replies = ap₂ (λ (xs : List WorldReply) (x : WorldReply). xs ++ x ∷ []) p.replies
          (a ∙ ap (λ (x : WorldValue). (world_step x e).reply) p.world) ∙ sym (replies_push v (take i es) e)
          ∙ ap (world_replies v) (sym more);
      workers = omega arith;
      count = omega arith;
    }

-- the worker of an event has a seat
pub event_within : (v : WorldValue) (es : List WorldEvent) (i : ℕ) (e : WorldEvent) (w : WorldValue) (rs : List WorldReply)
    → All (λ (e : WorldEvent). e.worker < length v.workers) es → Plays v es i w rs → i < length es → e ≡ get_or es i e
    → e.worker < length w.workers
event_within v es i e w rs a p l g =
    let h = All-get_or (λ (e : WorldEvent). e.worker < length v.workers) es i e l a in
    let f : e.worker < length v.workers = subst (λ (x : WorldEvent). x.worker < length v.workers) (sym g) h in
    let m = p.workers in omega arith

-- ---- worlds

-- where no worker has a tile
pub fresh_is_world : (b : BookValue) (n : ℕ) (ws : List (Option WorkerValue)) → ws ≡ replicate n None → 0 < n → n ≤ 32
    → IsWorld (record { book = b; workers = ws })
fresh_is_world b n ws e some few =
    let long = ap {B = ℕ} length e ∙ length-replicate n None in
    record {
      some = omega arith;
      few = omega arith;
      holds = λ w l. subst (λ (us : List (Option WorkerValue)). IsSeat b w (worker_at us w)) (sym e)
          (subst (IsSeat b w) (sym (none n w)) tt);
    }
  where
    none : (n w : ℕ) → worker_at (replicate n None) w ≡ None
    none zero w = refl
    none (suc n) zero = refl
    none (suc n) (suc w) = none n w

-- an event leaves what its turn says
pub happened : (v : WorldValue) (e : WorldEvent) (b : BookValue) (ws : List (Option WorkerValue)) (r : WorldReply) (x : Option WorkerValue)
    → Turned (turn_of v.book (worker_at v.workers e.worker) e.worker e.act) r b x → ws ≡ set v.workers e.worker x
    → record { book = b; workers = ws } ≡ (world_step v e).world
happened v e b ws r x t s = ap₂ (λ (b : BookValue) (ws : List (Option WorkerValue)). record { book = b; workers = ws }) t.book
    (s ∙ ap (set v.workers e.worker) t.worker)

-- an event leaves a world
pub happened_is_world : {E : Type 0} (v : WorldValue) (e : WorldEvent) (r : Result WorldReply E) (b : BookValue)
    (ws : List (Option WorkerValue)) (x : Option WorkerValue) → IsTiling v.book.problem v.book.branch v.book.first v.book.tiles
    → e.worker < length v.workers → IsWorld v → IfOk r (λ y. Turned (turn_of v.book (worker_at v.workers e.worker) e.worker e.act) y b x)
    → OnErr r (b ≡ v.book) → OnErr r (x ≡ worker_at v.workers e.worker) → ws ≡ set v.workers e.worker x
    → IsWorld (record { book = b; workers = ws })
happened_is_world v e (Ok y) b ws x tiling l k t f g s = subst IsWorld (sym (happened v e b ws y x t s)) (world_keeps v e tiling l k)
happened_is_world v e (Err y) b ws x tiling l k t f g s =
    let same : ws ≡ v.workers = s ∙ ap (set v.workers e.worker) g ∙ set-get_or v.workers e.worker None in
    subst IsWorld (ap₂ (λ (b : BookValue) (ws : List (Option WorkerValue)). record { book = b; workers = ws }) (sym f) (sym same)) k

-- the same, where the worker's seat was read
pub happened_here : {E : Type 0} (v : WorldValue) (e : WorldEvent) (r : Result WorldReply E) (b : BookValue)
    (ws : List (Option WorkerValue)) (x old : Option WorkerValue) → old ≡ get_or v.workers e.worker old
    → IsTiling v.book.problem v.book.branch v.book.first v.book.tiles → e.worker < length v.workers → IsWorld v
    → IfOk r (λ y. Turned (turn_of v.book old e.worker e.act) y b x) → OnErr r (b ≡ v.book) → OnErr r (x ≡ old) → ws ≡ set v.workers e.worker x
    → IsWorld (record { book = b; workers = ws })
happened_here v e r b ws x old read tiling l k t f g s =
    let here : old ≡ worker_at v.workers e.worker = read ∙ get_or_default v.workers e.worker old None l in
    happened_is_world v e r b ws x tiling l k
    (subst (λ (o : Option WorkerValue). IfOk r (λ y. Turned (turn_of v.book o e.worker e.act) y b x)) here t) f
    (subst (λ (o : Option WorkerValue). OnErr r (x ≡ o)) here g) s

all_taken : (es : List WorldEvent) (n : ℕ) → length es ≤ n → take n es ≡ es
all_taken [] zero l = refl
all_taken [] (suc n) l = refl
all_taken (e ∷ es) zero l = absurd (omega arith)
all_taken (e ∷ es) (suc n) l = ap (λ (xs : List WorldEvent). e ∷ xs) (all_taken es n (omega arith))

pub all_world : (v : WorldValue) (es : List WorldEvent) (n : ℕ) (w : WorldValue) (rs : List WorldReply) → Plays v es n w rs → length es ≤ n
    → w ≡ played v es
all_world v es n w rs p l = p.world ∙ ap (played v) (all_taken es n l)

pub all_replies : (v : WorldValue) (es : List WorldEvent) (n : ℕ) (w : WorldValue) (rs : List WorldReply) → Plays v es n w rs
    → length es ≤ n → rs ≡ world_replies v es
all_replies v es n w rs p l = p.replies ∙ ap (world_replies v) (all_taken es n l)

-- one seat more without a worker
replicate_suc : {X : Type 0} (n : ℕ) (x : X) → replicate n x ++ x ∷ [] ≡ replicate (suc n) x
replicate_suc zero x = refl
replicate_suc {X} (suc n) x = ap (λ (xs : List X). x ∷ xs) (replicate_suc n x)

pub replicate_more : {X : Type 0} (n : ℕ) (x : X) → replicate n x ++ x ∷ [] ≡ replicate (n + 1) x
replicate_more n x = let e : suc n ≡ n + 1 = omega arith in replicate_suc n x ∙ ap (λ (k : ℕ). replicate k x) e
