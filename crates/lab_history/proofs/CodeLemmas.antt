-- Entries are read back from their numbers.
use Rattle.std.proofs.Common.{◌≡◌, ℕ, ◌<◌, Bool, true, false, Option, List, [], ◌++◌, refl, sym, ap, ◌∙◌, arith, append_assoc, Result, Ok, Err, OnOk}
use Rattle.std.specs.Prelude as prelude
use Rattle.std.proofs.lemmas.List.{append-nil}
use Rattle.x_steps.specs.StateValue.{StateValue}
use Rattle.x_codes.specs.StateCode.{path_code, state_code, state_of, state_rest, after_code, after_of, after_rest, ReadsPath, ReadsState, ReadsAfter}
use Rattle.lab_history.specs.declared.grant.Grant.{Grant}
use Rattle.lab_history.specs.declared.fault.BookFault.{BookFault}
use Rattle.lab_history.specs.declared.fault.BookFault.TheVariants.{StaleLease}
use Rattle.lab_history.specs.declared.entry.Call.TheVariants as call
use Rattle.lab_history.specs.declared.entry.Reply.TheVariants as reply
use Rattle.lab_history.specs.declared.entry.Entry.{Entry}
use Rattle.lab_history.specs.EntryCode.{worker_of, bool_code, bool_of, cut_code, cut_of, cut_rest}
use Rattle.lab_history.specs.EntryCode.{grant_code, grant_of, fault_code, fault_of, call_code}
use Rattle.lab_history.specs.EntryCode.{call_of, call_rest, reply_code, reply_of, entry_code, entry_of}
use Rattle.lab_history.specs.EntryCode.{ReadsCut, ReadsGrant, ReadsCall, ReadsReply, ReadsFault}

pub worker_small : (n : ℕ) → n < 256 → worker_of n ≡ n
worker_small n h = omega arith

bool_back : (b : Bool) → bool_of (bool_code b) ≡ b
bool_back true = refl
bool_back false = refl

pub reads_none : ReadsCut prelude.None
unfolding cut_code cut_of cut_rest
reads_none = λ rest. (refl, refl)

pub reads_some : (path : List ℕ) → ReadsPath path → ReadsCut (prelude.Some path)
unfolding cut_code cut_of cut_rest
reads_some path r = λ rest. (ap prelude.Some (r rest).0, (r rest).1)

pub reads_grant : (g : Grant) → g.worker < 256 → ReadsGrant g
unfolding grant_code grant_of
reads_grant g h = λ rest. (λ j. record { id = g.id; worker = worker_small g.worker h j; index = g.index })

pub reads_stale : (s : StateValue) → ReadsState s → ReadsFault (StaleLease s)
unfolding fault_code fault_of
reads_stale s r = ap StaleLease (ap state_of (sym (append-nil (state_code s))) ∙ (r []).0)

pub reads_post : (g : Grant) (from to : StateValue) (same : Bool) → ReadsGrant g → ReadsState from → ReadsAfter from.path to
    → ReadsCall (call.Post g from to same)
unfolding call_code call_of call_rest grant_code
reads_post g from to same gr f t = λ rest.
    let ends = after_code from.path to in
    let a = append_assoc (state_code from) ends rest in
    let x = f (ends ++ rest) in let y = t rest in
    let mid : state_rest ((state_code from ++ ends) ++ rest) ≡ ends ++ rest = ap state_rest a ∙ x.1 in
    let first : state_of ((state_code from ++ ends) ++ rest) ≡ from = ap state_of a ∙ x.0 in
    let second = (λ j. after_of (first j).path (mid j)) ∙ y.0 in
    ((λ j. call.Post (gr ((state_code from ++ ends) ++ rest) j) (first j) (second j) (bool_back same j)), ap after_rest mid ∙ y.1)

pub reads_split : (g : Grant) (path : List ℕ) (same : Bool) → ReadsGrant g → ReadsPath path → ReadsCall (call.Split g path same)
unfolding call_code call_of call_rest grant_code
reads_split g path same gr p = λ rest.
    ((λ j. call.Split (gr (path_code path ++ rest) j) ((p rest).0 j) (bool_back same j)), (p rest).1)

pub reads_put_back : (id : ℕ) (s : StateValue) → ReadsState s → ReadsCall (call.PutBack id s)
unfolding call_code call_of call_rest
reads_put_back id s r = λ rest. (ap (call.PutBack id) (r rest).0, (r rest).1)

pub reads_retract : (g : Grant) → ReadsGrant g → ReadsCall (call.Retract g)
unfolding call_code call_of call_rest grant_code
reads_retract g gr = λ rest. (ap call.Retract (gr rest), refl)

pub reads_park : (g : Grant) → ReadsGrant g → ReadsCall (call.Park g)
unfolding call_code call_of call_rest grant_code
reads_park g gr = λ rest. (ap call.Park (gr rest), refl)

pub reads_abandon : (g : Grant) → ReadsGrant g → ReadsCall (call.Abandon g)
unfolding call_code call_of call_rest grant_code
reads_abandon g gr = λ rest. (ap call.Abandon (gr rest), refl)

pub reads_close : (g : Grant) → ReadsGrant g → ReadsCall (call.Close g)
unfolding call_code call_of call_rest grant_code
reads_close g gr = λ rest. (ap call.Close (gr rest), refl)

pub reads_leased : (g : Grant) (lo hi : Option (List ℕ)) (s : StateValue) (waiting : ℕ) → ReadsGrant g → ReadsCut lo → ReadsCut hi → ReadsState s
    → ReadsReply (reply.Leased g lo hi s waiting)
unfolding reply_code reply_of grant_code
reads_leased g lo hi s waiting gr l h r =
    let x = l (cut_code hi ++ state_code s) in let y = h (state_code s) in
    let z = ap state_of (sym (append-nil (state_code s))) ∙ (r []).0 in
    let second = ap cut_of x.1 ∙ y.0 in
    let third = ap state_of (ap cut_rest x.1 ∙ y.1) ∙ z in
    (λ j. reply.Leased (gr (cut_code lo ++ (cut_code hi ++ state_code s)) j) (x.0 j) (second j) (third j) waiting)

pub reads_retracted : (from to : StateValue) → ReadsState from → ReadsState to → ReadsReply (reply.Retracted from to)
unfolding reply_code reply_of
reads_retracted from to f t =
    let x = f (state_code to) in
    let z = ap state_of x.1 ∙ ap state_of (sym (append-nil (state_code to))) ∙ (t []).0 in
    (λ j. reply.Retracted (x.0 j) (z j))

pub reads_posted : (stop : Bool) (waiting : ℕ) → ReadsReply (reply.Posted stop waiting)
unfolding reply_code reply_of
reads_posted stop waiting = ap (λ b. reply.Posted b waiting) (bool_back stop)

pub reads_refused : (f : BookFault) → ReadsFault f → ReadsReply (reply.Refused f)
unfolding reply_code reply_of
reads_refused f r = ap reply.Refused r

pub reads_entry : (e : Entry) → e.worker < 256 → ReadsCall e.call → ReadsReply e.reply → entry_of (entry_code e) ≡ e
unfolding entry_code entry_of
reads_entry e w c r =
    let x = c (reply_code e.reply) in
    let last = ap reply_of x.1 ∙ r in
    (λ j. record { worker = worker_small e.worker w j; call = x.0 j; reply = last j })

-- ---- a row that grows

-- what is true is so on success
pub always : {A B : Type 0} {X : Type 0} (r : Result A B) → X → OnOk r X
always (Ok a) x = x
always (Err b) x = tt

pub on_ok : {A B : Type 0} {X Y : Type 0} (r : Result A B) → (X → Y) → OnOk r X → OnOk r Y
on_ok (Ok a) f x = f x
on_ok (Err b) f x = tt

-- ---- calls and replies of numbers alone

pub reads_lease : (id : ℕ) → ReadsCall (call.Lease id)
unfolding call_code call_of call_rest
reads_lease id = λ rest. (refl, refl)

pub reads_lease_any : ReadsCall call.LeaseAny
unfolding call_code call_of call_rest
reads_lease_any = λ rest. (refl, refl)

pub reads_take_held : (id : ℕ) → ReadsCall (call.TakeHeld id)
unfolding call_code call_of call_rest
reads_take_held id = λ rest. (refl, refl)

pub reads_request_stop : (id : ℕ) → ReadsCall (call.RequestStop id)
unfolding call_code call_of call_rest
reads_request_stop id = λ rest. (refl, refl)
