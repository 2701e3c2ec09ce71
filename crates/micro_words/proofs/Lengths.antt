-- How long a document is at most.
--     job_length     below 2^32 bytes for every document that is made
use Rattle.std.proofs.Common.{◌≡◌, ◌∙◌, ◌+◌, ◌*◌, ◌<◌, ◌≤◌, ◌^◌, ◌%◌, ℕ, Bool, true, false, cond, suc, zero, refl, ap, arith, ◌++◌, length, codes}
use Rattle.std.specs.Prelude.{◌==◌}
use Rattle.std.proofs.lemmas.List.{length-append}
use Rattle.micro_words.specs.Draws.{next_state}
use Rattle.micro_words.specs.Prose.{letters, word, word_length, after_word, mark, words, word_count, paragraph, after_paragraph, paragraphs}
use Rattle.micro_words.specs.Documents.{settings, job}

letters_length : (k s : ℕ) → length (letters k s) ≡ k
unfolding letters
letters_length zero s = refl
letters_length (suc k) s =
    let rest = letters_length k (next_state s) in
    omega (arith, rest)

word_most : (s : ℕ) → length (word s) ≤ 9
unfolding word
word_most s =
    let own = letters_length (word_length s) (next_state s) in
    omega (arith, own)

mark_most : (number left : ℕ) → length (mark number (suc left)) ≤ 2
unfolding mark
mark_most number left = by (number % 7 == 0)
  where
    by : (seventh : Bool) → length (cond seventh (codes ", ") (codes " ")) ≤ 2
    by true = omega arith
    by false = omega arith

last_mark : (number : ℕ) → length (mark number 0) ≡ 3
unfolding mark
last_mark number = refl

words_more : (left number s : ℕ) → length (words (suc left) number s)
    ≡ length (word s) + length (mark number left) + length (words left (number + 1) (after_word s))
unfolding words
words_more left number s =
    length-append (word s ++ mark number left) (words left (number + 1) (after_word s))
    ∙ ap (λ n. n + length (words left (number + 1) (after_word s))) (length-append (word s) (mark number left))

no_words : (number s : ℕ) → length (words 0 number s) ≡ 0
unfolding words
no_words number s = refl

words_most : (left number s : ℕ) → length (words left number s) ≤ 11 * left + 1
words_most zero number s =
    let none = no_words number s in
    omega (arith, none)
words_most (suc zero) number s =
    let all = words_more 0 number s in
    let own = word_most s in
    let end = last_mark number in
    let none = no_words (number + 1) (after_word s) in
    omega (arith, all, own, end, none)
words_most (suc (suc left)) number s =
    let all = words_more (suc left) number s in
    let own = word_most s in
    let end = mark_most number left in
    let rest = words_most (suc left) (number + 1) (after_word s) in
    omega (arith, all, own, end, rest)

paragraph_most : (s : ℕ) → length (paragraph s) ≤ 870
unfolding paragraph
paragraph_most s =
    let all = words_most (word_count s) 1 (next_state s) in
    omega (arith, all)

paragraphs_most : (k s : ℕ) → length (paragraphs k s) ≤ 870 * k
unfolding paragraphs
paragraphs_most zero s = omega arith
paragraphs_most (suc k) s =
    let all = length-append (paragraph s) (paragraphs k (after_paragraph s)) in
    let own = paragraph_most s in
    let rest = paragraphs_most k (after_paragraph s) in
    omega (arith, all, own, rest)

settings_length : length settings ≡ 189
unfolding settings
settings_length = refl

pub job_length : (n : ℕ) → n ≤ 20000 → length (job n) < 2 ^ 32
unfolding job
job_length n few =
    let all = length-append settings (paragraphs n n) in
    let rest = paragraphs_most n n in
    omega (arith, all, settings_length, rest, few)
