-- Replies, line by line.
use Rattle.std.proofs.Common.{◌≡◌, ℕ, zero, suc, List, [], ◌∷◌, ◌++◌, drop, Option, Some, None, option_map, unwrap_or, refl, sym, ◌∙◌, ap, length, append_assoc, append-nil, arith}
use Rattle.x_debug.specs.Session.{SessionValue}
use Rattle.debug_laws.specs.AlikeSessions.{AreSoundAlike}
use Rattle.debug_script.specs.Input.{raw_lines}
use Rattle.debug_script.specs.Replies.{exchange, debug_replies}

-- lines that are taken already are answered nothing
skipped : (s : SessionValue) (n : ℕ) (lines : List (List ℕ)) → debug_replies s n lines ≡ debug_replies s 0 (drop n lines)
unfolding debug_replies
skipped s zero lines = refl
skipped s (suc n) [] = refl
skipped s (suc n) (line ∷ lines) = skipped s n lines

-- what is answered after a line, where some lines are left, and where the commands end
goes_on : (s : SessionValue) (lines left : List (List ℕ)) (taken : Option ℕ) → Some left ≡ option_map (λ n. drop n lines) taken →
    unwrap_or (option_map (λ n. debug_replies s n lines) taken) [] ≡ debug_replies s 0 left
goes_on s lines left None e = absurd (cc)
goes_on s lines left (Some n) e = let same : left ≡ drop n lines = cc in skipped s n lines ∙ ap (debug_replies s 0) (sym same)

ends : (s : SessionValue) (lines : List (List ℕ)) (taken : Option ℕ) → None ≡ option_map (λ n. drop n lines) taken →
    unwrap_or (option_map (λ n. debug_replies s n lines) taken) [] ≡ []
ends s lines None e = refl
ends s lines (Some n) e = absurd (cc)

-- one line, and what is answered after it
one : (s : SessionValue) (line : List ℕ) (lines : List (List ℕ)) → debug_replies s 0 (line ∷ lines)
    ≡ (exchange s line lines).text ++ unwrap_or (option_map (λ n. debug_replies (exchange s line lines).session n lines) (exchange s line lines).taken) []
unfolding debug_replies
one s line lines = refl

-- a line of what is left to answer
module _ (s t : SessionValue) (said text whole rest line after : List ℕ) (lines : raw_lines rest ≡ line ∷ raw_lines after)
    (so_far : said ++ debug_replies s 0 (raw_lines rest) ≡ whole)
    (answered : text ≡ said ++ (exchange s line (raw_lines after)).text) (session : t ≡ (exchange s line (raw_lines after)).session) where
  said_of : (further : List ℕ) → unwrap_or (option_map (λ n. debug_replies t n (raw_lines after)) (exchange s line (raw_lines after)).taken) [] ≡ further → text ++ further ≡ whole
  said_of further e =
      ap (λ l. l ++ further) answered ∙ append_assoc said _ _
      ∙ ap (λ l. said ++ l) (ap (λ l. (exchange s line (raw_lines after)).text ++ l) (sym e ∙ ap (λ u. unwrap_or (option_map (λ n. debug_replies u n (raw_lines after)) (exchange s line (raw_lines after)).taken) []) session)
      ∙ sym (one s line (raw_lines after)) ∙ ap (debug_replies s 0) (sym lines))
      ∙ so_far

  replies_go : (left : List ℕ) → Some (raw_lines left) ≡ option_map (λ n. drop n (raw_lines after)) (exchange s line (raw_lines after)).taken → text ++ debug_replies t 0 (raw_lines left) ≡ whole
  replies_go left e = said_of _ (goes_on t (raw_lines after) (raw_lines left) _ e)

  replies_end : None ≡ option_map (λ n. drop n (raw_lines after)) (exchange s line (raw_lines after)).taken → text ≡ whole
  replies_end e = sym (append-nil text) ∙ said_of [] (ends t (raw_lines after) _ e)

-- no line is left
none_left : (s : SessionValue) (rest : List ℕ) → length rest ≡ 0 → debug_replies s 0 (raw_lines rest) ≡ []
unfolding debug_replies
none_left s [] e = refl
none_left s (b ∷ bs) e = absurd (omega arith)

replies_done : (s : SessionValue) (said whole rest : List ℕ) → said ++ debug_replies s 0 (raw_lines rest) ≡ whole → length rest ≡ 0 → said ≡ whole
replies_done s said whole rest h e = sym (append-nil said) ∙ ap (λ l. said ++ l) (sym (none_left s rest e)) ∙ h

-- ---- what a session says for another one, which is alike

-- what is said, and what the other one answers to the lines that are left, is the whole
pub record IsAnswering (whole : List ℕ) (s : SessionValue) (said rest : List ℕ) : Type 0 where
  pub other : SessionValue
  pub alike : AreSoundAlike s other
  pub so_far : said ++ debug_replies other 0 (raw_lines rest) ≡ whole

-- one line more
module _ (whole : List ℕ) (s t : SessionValue) (said text rest line after : List ℕ) (i : IsAnswering whole s said rest)
    (lines : raw_lines rest ≡ line ∷ raw_lines after)
    (answered : (f : SessionValue) → AreSoundAlike s f → text ≡ said ++ (exchange f line (raw_lines after)).text) where
  pub answering_goes : (left : List ℕ)
      → ((f : SessionValue) → AreSoundAlike s f → AreSoundAlike t (exchange f line (raw_lines after)).session)
      → ((f : SessionValue) → Some (raw_lines left) ≡ option_map (λ n. drop n (raw_lines after)) (exchange f line (raw_lines after)).taken)
      → IsAnswering whole t text left
  answering_goes left alike taken = record {
    other = (exchange i.other line (raw_lines after)).session;
    alike = alike i.other i.alike;
    so_far = replies_go i.other (exchange i.other line (raw_lines after)).session said text whole rest line after lines i.so_far
        (answered i.other i.alike) refl left (taken i.other);
  }

  pub answering_ends
      : ((f : SessionValue) → None ≡ option_map (λ n. drop n (raw_lines after)) (exchange f line (raw_lines after)).taken) → text ≡ whole
  answering_ends taken =
      replies_end i.other (exchange i.other line (raw_lines after)).session said text whole rest line after lines i.so_far
      (answered i.other i.alike) refl (taken i.other)

-- no line is left
pub answering_done : (whole : List ℕ) (s : SessionValue) (said rest : List ℕ) → IsAnswering whole s said rest → length rest ≡ 0 → said ≡ whole
answering_done whole s said rest i e = replies_done i.other said whole rest i.so_far e
