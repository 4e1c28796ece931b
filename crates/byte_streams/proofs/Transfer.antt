-- What was read or written so far.
use Rattle.std.proofs.Common.{◌≡◌, ℕ, zero, suc, ◌+◌, ◌<◌, ◌≤◌, List, [], ◌∷◌, ◌++◌, map, Some, None, IfSome, length, take, drop, sym, ap, ◌∙◌, append_assoc, length-append, take-append-drop, subst, true, arith}
use Rattle.std.specs.Prelude.{Option, Result, Ok, Err, All, OnErr, is_err}
use Rattle.std.specs.Io.KnownBytes.{Appends, Consumes, Keeps}
use Rattle.std.proofs.KnownBytes.{Appends-trans, Appends-kept}
use Rattle.std.proofs.lemmas.Bool.{false≢true}
use Rattle.std.proofs.lemmas.List.{append-nil, map-append}
use Rattle.std.proofs.lemmas.List.Elements.{All-append, All-nil}
use lib.Seq.{take-append_seam}
use Rattle.byte_streams.specs.declared.input.InputFault.{InputFault}
use Rattle.byte_streams.specs.declared.input.InputFault.TheVariants.{Failed, PastLimit, OutOfMemory}
use Rattle.byte_streams.specs.Stream.{Stream, IsSound, HasFailed, TakesPart, CountsThen, CountsAlone}
use Rattle.byte_streams.specs.Input.{most_input, StopsReading, StopsAfter, LacksMemoryWithin, AsksNoMore, BringsBytes}

-- no count came before these answers
pub counts_none : (old new last : List (Option ℕ)) → new ≡ old ++ last → CountsThen old new last
counts_none old new last h = ([], All-nil (λ n. 0 < n), h)

-- one answer came, and told some bytes
pub counts_one : (old new : List (Option ℕ)) (n : ℕ) → 0 < n → new ≡ old ++ Some n ∷ [] → CountsThen old new []
counts_one old new n some h = (n ∷ [], one, h)
  where
    one : All (λ n. 0 < n) (n ∷ [])
    one zero d within = some
    one (suc k) d within = absurd (omega (arith, within))

-- more came behind counts alone
pub counts_more : (old mid new last : List (Option ℕ)) → CountsThen old mid [] → CountsThen mid new last → CountsThen old new last
counts_more old mid new last h k =
    let before : mid ≡ old ++ map Some h.0 = h.2 ∙ ap (λ l. old ++ l) (append-nil (map Some h.0)) in
    let joined : map Some h.0 ++ (map Some k.0 ++ last) ≡ map Some (h.0 ++ k.0) ++ last =
    sym (append_assoc (map Some h.0) (map Some k.0) last) ∙ ap (λ l. l ++ last) (sym (map-append Some h.0 k.0)) in (
      h.0 ++ k.0,
      All-append (λ n. 0 < n) h.0 k.0 h.1 k.1,
      k.2 ∙ ap (λ l. l ++ (map Some k.0 ++ last)) before ∙ append_assoc old (map Some h.0) (map Some k.0 ++ last)
          ∙ ap (λ l. old ++ l) joined,
    )

-- where one reading stopped, all of it did
pub stops_more : (old mid new : Stream) (fault : InputFault) → CountsAlone old mid → AsksNoMore mid new fault → AsksNoMore old new fault
stops_more old mid new Failed h k = counts_more _ _ _ _ h k
stops_more old mid new PastLimit h k = counts_more _ _ _ _ h k
stops_more old mid new OutOfMemory h k = counts_more _ _ _ _ h k

-- a part of the text was written, and the rest is left
pub record IsWritten (old new : Stream) (text rest : List ℕ) : Type 0 where
  pub front : List ℕ
  pub whole : text ≡ front ++ rest
  pub appended : Appends old.bytes new.bytes front
  pub sound : IsSound old new
  pub counted : CountsAlone old new

pub written_more : (old mid new : Stream) (text rest : List ℕ) (n : ℕ) → IsWritten old mid text rest → Appends mid.bytes new.bytes (take n rest) → IsSound mid new
    → CountsAlone mid new → IsWritten old new text (drop n rest)
written_more old mid new text rest n w h s k = record {
  front = w.front ++ take n rest;
  whole = w.whole ∙ ap (λ l. w.front ++ l) (sym (take-append-drop n rest)) ∙ sym (append_assoc w.front (take n rest) (drop n rest));
  appended = Appends-trans old.bytes mid.bytes new.bytes w.front (take n rest) w.appended h;
  sound = s ∙ w.sound;
  counted = counts_more _ _ _ _ w.counted k;
}

-- where a write fails, what was written is a beginning
pub written_part : (old mid new : Stream) (text rest : List ℕ) → IsWritten old mid text rest → Keeps mid.bytes new.bytes → HasFailed new → TakesPart old new text
written_part old mid new text rest w h f =
    let all = ap (take (length w.front)) w.whole ∙ take-append_seam w.front rest in
    ((length w.front, subst (Appends old.bytes new.bytes) (sym all) (Appends-kept old.bytes mid.bytes new.bytes w.front w.appended h)), f)

-- a part of the input was read, without a failure
pub record IsRead (old new : Stream) (text : List ℕ) : Type 0 where
  pub came : Consumes old.bytes new.bytes text
  pub sound : IsSound old new

past : (old mid new : Option (List ℕ)) (text came : List ℕ) → Consumes old mid text → Consumes mid new came → most_input < length text + length came → IfSome old (λ bytes. most_input < length bytes)
past None mid new text came h k long = tt
past (Some xs) None new text came h k long = absurd h
past (Some xs) (Some ys) None text came h k long = absurd k
past (Some xs) (Some ys) (Some zs) text came h k long =
    let e = ap length h ∙ length-append text ys in let f = ap length k ∙ length-append came zs in
    omega (arith, e, f, long)

joined : (old mid new : Option (List ℕ)) (text came : List ℕ) → Consumes old mid text → Consumes mid new came → Consumes old new (text ++ came)
joined None mid new text came h k = tt
joined (Some xs) None new text came h k = absurd h
joined (Some xs) (Some ys) None text came h k = absurd k
joined (Some xs) (Some ys) (Some zs) text came h k = h ∙ ap (λ l. text ++ l) k ∙ sym (append_assoc text came zs)

-- one part more was read
pub read_more : (old mid new : Stream) (before text : List ℕ) → IsRead old mid before → BringsBytes mid new before text → IsSound mid new → IsRead old new text
read_more old mid new before text r b s = record {
  came = subst (Consumes old.bytes new.bytes) (sym b.1) (joined old.bytes mid.bytes new.bytes before b.0 r.came b.2);
  sound = s ∙ r.sound;
}

-- what holds on an error, where there is one
pub err_holds : {T E : Type 0} (r : Result T E) (P : Type 0) → true ≡ is_err r → OnErr r P → P
err_holds (Ok x) P e h = absurd (false≢true (sym e))
err_holds (Err x) P e h = h

-- why a read stopped is why the whole input was not read
pub read_stops : (old mid new : Stream) (text : List ℕ) (fault : InputFault) → IsRead old mid text → StopsAfter (length text) mid new fault → StopsReading old new fault
read_stops old mid new text Failed r h = h
read_stops old mid new text PastLimit r h = (past old.bytes mid.bytes new.bytes text h.0.0 r.came h.0.1 h.0.2, h.1 ∙ r.sound)
read_stops old mid new text OutOfMemory r h = h.1 ∙ r.sound

-- memory that was refused was asked for no more than the limit
pub read_within : (old mid new : Stream) (text : List ℕ) (fault : InputFault) → IsRead old mid text → StopsAfter (length text) mid new fault → LacksMemoryWithin old new fault
read_within old mid new text OutOfMemory r h =
    let came = h.0.0 in
    (text ++ came, joined old.bytes mid.bytes new.bytes text came r.came h.0.1, subst (λ n. n ≤ most_input) (sym (length-append text came)) h.0.2)
read_within old mid new text _ r h = tt
