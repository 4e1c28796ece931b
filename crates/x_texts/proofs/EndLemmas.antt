-- How the line of a visit is kept, and goes on.
use Rattle.std.proofs.Common.{inl, inr, ◌≡◌, ℕ, zero, suc, ◌+◌, ◌*◌, ◌^◌, ◌<◌, ◌≤◌, List, [], ◌∷◌, ◌++◌, length, take, drop, set, map, get_or, decimal, codes, refl, sym, ap, ◌∙◌, subst, arith, append_assoc, length-append}
use Rattle.std.specs.List.{All}
use Rattle.std.proofs.lemmas.List.{map-append, map_more, flat_map_more, length-map, take-map, take_all, take_more, take-take, get_or-take, get_or_past, get_or-set_same, take-set-le, length-take, length-take-le, take-append-drop}
use Rattle.std.proofs.lemmas.List.Elements.{All-take}
use Rattle.std.proofs.lemmas.Fmt.{length-decimal-le}
use Rattle.std.proofs.lemmas.Grind.{flat_map-append, take-set_at}
use Rattle.std.proofs.lemmas.Bool.{cases_lt}
use Rattle.std.proofs.Math.Seq.{take-append_seam}
use Rattle.text_lines.specs.Writing.{words_after, line_text, text_of}
use Rattle.cover_problem.proofs.FlatListLemmas.{same_default}
use Rattle.text_lines.proofs.WritingLemmas.{joined}
use Rattle.x_texts.specs.Words.{visit_words}
use Rattle.x_texts.specs.Ends.{word_ends, IsVisitLine, IsClosed, LineHasRoom, HoldsLine}

-- *words and where they end*

words_join : (vs ws : List (List ℕ)) → words_after (vs ++ ws) ≡ words_after vs ++ words_after ws
words_join vs ws = flat_map-append (λ (word : List ℕ). 32 ∷ word) vs ws

pub ends_join : (a : ℕ) (vs ws : List (List ℕ)) → word_ends a (vs ++ ws) ≡ word_ends a vs ++ word_ends (a + length (words_after vs)) ws
ends_join a [] ws = let n : a ≡ a + 0 = omega arith in ap (λ b. word_ends b ws) n
ends_join a (v ∷ vs) ws =
    let n : a + suc (length v) + length (words_after vs) ≡ a + length ((32 ∷ v) ++ words_after vs) = let m = length-append (32 ∷ v) (words_after vs) in omega arith in
    ap (λ l. (a + suc (length v)) ∷ l) (ends_join (a + suc (length v)) vs ws ∙ ap (λ b. word_ends (a + suc (length v)) vs ++ word_ends b ws) n)

length-ends : (a : ℕ) (ws : List (List ℕ)) → length (word_ends a ws) ≡ length ws
length-ends a [] = refl
length-ends a (w ∷ ws) = ap suc (length-ends (a + suc (length w)) ws)

-- the ends of the first words are the first ends
ends_take : (a n : ℕ) (ws : List (List ℕ)) → take n (word_ends a ws) ≡ word_ends a (take n ws)
ends_take a zero ws = refl
ends_take a (suc n) [] = refl
ends_take a (suc n) (w ∷ ws) = ap (λ l. (a + suc (length w)) ∷ l) (ends_take (a + suc (length w)) n ws)

-- the end at a place is where the words before it end
end_at : (a n d : ℕ) (ws : List (List ℕ)) → n < suc (length (word_ends a ws)) → get_or (a ∷ word_ends a ws) n d ≡ a + length (words_after (take n ws))
end_at a zero d ws l = omega arith
end_at a (suc n) d [] l = absurd (omega arith)
end_at a (suc n) d (w ∷ ws) l =
    let m = length-append (32 ∷ w) (words_after (take n ws)) in let e = end_at (a + suc (length w)) n d ws (omega arith) in
    e ∙ (let s : a + suc (length w) + length (words_after (take n ws)) ≡ a + length ((32 ∷ w) ++ words_after (take n ws)) = omega arith in s)

-- *the line of a visit*

-- numbers of 32 bits
abbrev pub AreSmall : List ℕ → Type 0
AreSmall path = All (λ choice. choice < 2 ^ 32) path

pub each_small : (path : List ℕ) → ((k : ℕ) → get_or path k 0 < 2 ^ 32) → AreSmall path
each_small path each = λ k d l. omega (arith, each k, same_default path k d 0 l)

-- where the line of a visit ends
abbrev pub line_end : List ℕ → ℕ
line_end path = 5 + length (words_after (map decimal path))

-- at most ten digits and a space are a choice
pub short : (path : List ℕ) → AreSmall path → line_end path ≤ 5 + 11 * length path
short [] small = omega arith
short (choice ∷ path) small =
    let digits = length-decimal-le 10 choice (omega arith) (let s = small 0 0 (omega arith) in omega (arith, s)) (let s = small 0 0 (omega arith) in omega (arith, s)) in
    let rest = short path (λ k d l. small (suc k) d (omega (arith, l))) in
    let n = length-append (32 ∷ decimal choice) (words_after (map decimal path)) in omega (arith, digits, rest, n)

-- and so many choices are
pub first_short : (path : List ℕ) (n : ℕ) → n ≤ length path → AreSmall path → line_end (take n path) ≤ 5 + 11 * n
first_short path n l small =
    let s = short (take n path) (All-take (λ choice. choice < 2 ^ 32) n path small) in let k = length-take-le n path l in omega (arith, s, k)

-- the line of the first choices
pub kept : (bytes ends path : List ℕ) (n : ℕ) → n ≤ length path → IsVisitLine bytes ends path → IsVisitLine bytes ends (take n path)
kept bytes ends path n l line = record {
  written = sym (take-take (line_end (take n path)) (line_end path) bytes sooner) ∙ ap (take (line_end (take n path))) (line.written ∙ split) ∙ ap (λ e. take e ((key ++ words_after some) ++ words_after (drop n words))) (sym (length-append key (words_after some)))
      ∙ take-append_seam (key ++ words_after some) (words_after (drop n words));
  ended = ap (λ k. take (suc k) ends) size ∙ sym (take-take (suc n) (suc (length path)) ends (omega (arith, l))) ∙ ap (take (suc n)) line.ended ∙ ap (λ es. 5 ∷ es) (ends_take 5 n words ∙ ap (word_ends 5) (take-map decimal n path));
}
  where
    key : List ℕ
    key = codes "visit"

    words : List (List ℕ)
    words = map decimal path

    some : List (List ℕ)
    some = map decimal (take n path)

    size : length (take n path) ≡ n
    size = length-take-le n path l

    join : words_after words ≡ words_after some ++ words_after (drop n words)
    join = ap words_after (sym (take-append-drop n words)) ∙ words_join (take n words) (drop n words) ∙ ap (λ ws. words_after ws ++ words_after (drop n words)) (take-map decimal n path)

    sooner : line_end (take n path) ≤ line_end path
    sooner = let j = ap length join in let s = length-append (words_after some) (words_after (drop n words)) in omega (arith, j, s)

    split : key ++ words_after words ≡ (key ++ words_after some) ++ words_after (drop n words)
    split = ap (λ bs. key ++ bs) join ∙ sym (append_assoc key (words_after some) (words_after (drop n words)))

-- its last end
pub last_end : (bytes ends path : List ℕ) (d : ℕ) → IsVisitLine bytes ends path → get_or ends (length path) d ≡ line_end path
last_end bytes ends path d line =
    sym (get_or-take (suc (length path)) ends (length path) d (omega arith)) ∙ ap (λ es. get_or es (length path) d) line.ended
    ∙ end_at 5 (length path) d (map decimal path) (let k = length-ends 5 (map decimal path) in let s = length-map path decimal in omega (arith, k, s))
    ∙ ap (λ ws. 5 + length (words_after ws)) (take_all (length path) (map decimal path) (let s = length-map path decimal in omega (arith, s)))

-- one choice more
pub one_more : (bytes ends path new_bytes new_ends : List ℕ) (choice end : ℕ) → IsVisitLine bytes ends path → take end new_bytes ≡ take (line_end path) bytes ++ 32 ∷ decimal choice → end ≤ length new_bytes
    → new_ends ≡ set ends (suc (length path)) end → suc (length path) < length ends → IsVisitLine new_bytes new_ends (path ++ choice ∷ []) × (end ≡ line_end (path ++ choice ∷ []))
one_more bytes ends path new_bytes new_ends choice end line b n e l = (
  record {
    written = ap (λ k. take k new_bytes) (sym place) ∙ all;
    ended = (λ j. take (suc (size j)) (e j)) ∙ take-set_at ends (suc (length path)) (suc (suc (length path))) end (omega arith) l ∙ (λ j. line.ended j ++ at_last j ∷ [])
        ∙ ap (λ es. 5 ∷ es) (sym (ends_join 5 words (word ∷ [])) ∙ ap (word_ends 5) (sym (map-append decimal path (choice ∷ []))));
  },
  place,
)
  where
    key : List ℕ
    key = codes "visit"

    words : List (List ℕ)
    words = map decimal path

    word : List ℕ
    word = decimal choice

    size : length (path ++ choice ∷ []) ≡ suc (length path)
    size = let s = length-append path (choice ∷ []) in omega (arith, s)

    all : take end new_bytes ≡ key ++ words_after (map decimal (path ++ choice ∷ []))
    all = b ∙ ap (λ bs. bs ++ 32 ∷ word) line.written ∙ flat_map_more (λ (w : List ℕ). 32 ∷ w) key words word ∙ ap (λ ws. key ++ words_after ws) (sym (map-append decimal path (choice ∷ [])))

    place : end ≡ line_end (path ++ choice ∷ [])
    place =
        let m = ap length all in let t = length-take-le end new_bytes n in
        let s = length-append key (words_after (map decimal (path ++ choice ∷ []))) in omega (arith, m, t, s)

    at_last : end ≡ 5 + length (words_after words) + suc (length word)
    at_last =
        let m = ap length (b ∙ ap (λ bs. bs ++ 32 ∷ word) line.written) in let t = length-take-le end new_bytes n in
        let s = length-append (key ++ words_after words) (32 ∷ word) in let k = length-append key (words_after words) in omega (arith, m, t, s, k)

-- the line's end is written behind it
pub close : (bytes ends path : List ℕ) → IsVisitLine bytes ends path → line_end path < length bytes → IsVisitLine (set bytes (line_end path) 10) ends path × IsClosed (set bytes (line_end path) 10) path
close bytes ends path line l = (
  record {
    written = take-set-le (line_end path) bytes (line_end path) 10 (omega arith) ∙ line.written;
    ended = line.ended;
  },
  get_or-set_same bytes (line_end path) 10 0 l,
)

-- it ends within the bytes
pub ends_within : (bytes path : List ℕ) → IsClosed bytes path → line_end path < length bytes
ends_within bytes path closed =
    elim (cases_lt (line_end path) (length bytes)) [
      | inl l ↦ l
      | inr past ↦ let none = get_or_past bytes (line_end path) 0 past in absurd (omega (arith, none, closed))
    ]

-- longer lists hold the same line
pub longer : (bytes ends path new_bytes new_ends new_path : List ℕ) (count : ℕ) → HoldsLine bytes ends path count → take (length bytes) new_bytes ≡ bytes → take (length ends) new_ends ≡ ends → take (length path) new_path ≡ path
    → LineHasRoom new_bytes new_ends new_path → HoldsLine new_bytes new_ends new_path count
longer bytes ends path new_bytes new_ends new_path count holds same_bytes same_ends same_path room = record {
  within = let l = ap length same_path in let m = length-take (length path) new_path in omega (arith, l, m, holds.within);
  line = record {
    written =
        ap (λ p. take (line_end p) new_bytes) same ∙ sym (take-take (line_end some) (length bytes) new_bytes (omega (arith, inside))) ∙ ap (take (line_end some)) same_bytes ∙ holds.line.written
        ∙ ap (λ p. codes "visit" ++ words_after (map decimal p)) (sym same);
    ended =
        ap (λ p. take (suc (length p)) new_ends) same ∙ sym (take-take (suc (length some)) (length ends) new_ends (let k = length-take-le count path holds.within in omega (arith, k, holds.within, holds.room.for_ends)))
        ∙ ap (take (suc (length some))) same_ends ∙ holds.line.ended ∙ ap (λ p. 5 ∷ word_ends 5 (map decimal p)) (sym same);
  };
  closed =
      ap (λ p. get_or new_bytes (line_end p) 0) same ∙ sym (get_or-take (length bytes) new_bytes (line_end some) 0 inside) ∙ ap (λ bs. get_or bs (line_end some) 0) same_bytes ∙ holds.closed;
  room = room;
}
  where
    some : List ℕ
    some = take count path

    same : take count new_path ≡ some
    same = sym (take-take count (length path) new_path holds.within) ∙ ap (take count) same_path

    inside : line_end some < length bytes
    inside = ends_within bytes some holds.closed

-- the last end of a line that is held, and the bytes before it
pub held_end : (bytes ends path : List ℕ) (count d : ℕ) → HoldsLine bytes ends path count → get_or ends count d ≡ line_end (take count path)
held_end bytes ends path count d holds =
    ap (λ n. get_or ends n d) (sym (length-take-le count path holds.within)) ∙ last_end bytes ends (take count path) d holds.line

-- a list that is written into as a slice is that slice
pub written_back : {X : Type 0} (slice old : List X) (n : ℕ) → n ≡ length old → length slice ≡ length old → take n (slice ++ drop (length slice) old) ≡ slice
written_back slice old n is same = ap (λ k. take k (slice ++ drop (length slice) old)) (is ∙ sym same) ∙ take-append_seam slice (drop (length slice) old)

-- the line of a visit that begins like it
pub alike : (bytes ends path next : List ℕ) (count n : ℕ) → HoldsLine bytes ends path count → n ≤ length (take count path) → take n (take count path) ≡ take n next → IsVisitLine bytes ends (take n next)
alike bytes ends path next count n holds l same = subst (IsVisitLine bytes ends) same (kept bytes ends (take count path) n l holds.line)

-- the line with its end
pub closed_line : (bytes ends path : List ℕ) → IsVisitLine bytes ends path → IsClosed bytes path → line_end path < length bytes → take (line_end path + 1) bytes ≡ line_text (visit_words path)
closed_line bytes ends path line closed l =
    take_more bytes (line_end path) 0 l ∙ (λ j. line.written j ++ closed j ∷ []) ∙ ap (λ bs. bs ++ 10 ∷ []) (sym (joined (codes "visit") (map decimal path)))

-- *lines*

-- the line of the next visit
pub next_line : (old text line new : List ℕ) (visits : List (List ℕ)) (path : List ℕ) (k : ℕ) → k < length visits → path ≡ get_or visits k [] → text ≡ old ++ text_of (map visit_words (take k visits))
    → line ≡ line_text (visit_words path) → new ≡ text ++ line → new ≡ old ++ text_of (map visit_words (take (k + 1) visits))
next_line old text line new visits path k l at before is n =
    n ∙ ap (λ bs. text ++ bs) is ∙ ap (λ bs. bs ++ line_text (visit_words path)) before ∙ flat_map_more line_text old (map visit_words (take k visits)) (visit_words path)
    ∙ ap (λ p. old ++ text_of (map visit_words (take k visits) ++ visit_words p ∷ [])) at ∙ ap (λ ls. old ++ text_of ls) (sym (map_more visit_words visits k [] l))
