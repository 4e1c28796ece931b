-- The example of specs/Replies.antt, computed.
use Rattle.std.proofs.Common.{◌≡◌, List, ℕ, [], ◌∷◌, ◌++◌, codes, ap, append-nil}
use Rattle.std.specs.List.{concat}
use Rattle.debug_language.specs.declared.question.Question.TheVariants.{Show}
use Rattle.debug_language.specs.Command as command
use Rattle.debug_language.specs.Reader.{command_from, engine_from}
use Rattle.x_debug.specs.Session.{SessionValue}
use Rattle.x_debug.specs.Commands.{answer, deed_of}
use Rattle.x_debug.specs.LoadedTexts.{load_answer}
use Rattle.debug_script.specs.Replies.{exchange, debug_replies}

-- `load 1`, a line, `show`, `quit`, `show`
abbrev lines : List ℕ → List (List ℕ)
lines line =
    (codes "load 1" ++ 10 ∷ []) ∷ line ∷ (codes "show" ++ 10 ∷ []) ∷ (codes "quit" ++ 10 ∷ []) ∷ (codes "show" ++ 10 ∷ []) ∷ []

-- the line is loaded, then the session that is left answers `show`, and that is all, whatever the session and the line
loaded_and_shown
    : (s : SessionValue) (line : List ℕ)
    → let loaded = load_answer s (concat (line ∷ [])) in
    debug_replies s 0 (lines line) ≡ loaded.text ++ (answer loaded.session (command.Ask Show)).text
unfolding debug_replies exchange engine_from command_from deed_of
loaded_and_shown s line =
    let loaded = load_answer s (concat (line ∷ [])) in
    ap (λ (bs : List ℕ). loaded.text ++ bs) (append-nil (answer loaded.session (command.Ask Show)).text)
