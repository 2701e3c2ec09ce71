-- What the loops over letters, words and paragraphs need: a piece that is put is the first of those that are left.
--     letters_put, state_put       a letter of a word
--     words_put, after_words_put   a word of a paragraph, with its mark
--     paragraphs_put               a paragraph
--     .._end                       none is left
use Rattle.std.proofs.Common.{◌≡◌, ◌∙◌, ℕ, suc, ◌+◌, ◌-◌, ◌<◌, ◌≤◌, ap, ap₂, sym, arith, List, [], ◌∷◌, ◌++◌, append_assoc, append-nil}
use Rattle.micro_words.specs.Draws.{next_state, state_after}
use Rattle.micro_words.specs.Prose.{letter, letters, word, after_word, mark, words, after_words, paragraph, after_paragraph, paragraphs}

less : (n k : ℕ) → k < n → n - k ≡ suc (n - (k + 1))
less n k lt = omega arith

none : (n k : ℕ) → n ≤ k → n - k ≡ 0
none n k le = omega arith

-- what stands before all that is left, where nothing is
nothing_left : (text rest all : List ℕ) → rest ≡ [] → text ++ rest ≡ all → text ≡ all
nothing_left text rest all is e = sym (append-nil text) ∙ ap (λ xs. text ++ xs) (sym is) ∙ e

put_first : (text piece new rest all : List ℕ) → new ≡ text ++ piece → all ≡ piece ++ rest → new ++ rest ≡ text ++ all
put_first text piece new rest all put is =
    ap (λ xs. xs ++ rest) put ∙ append_assoc text piece rest ∙ ap (λ xs. text ++ xs) (sym is)

-- ---- letters

letters_at : (n k s : ℕ) → k < n → letters (n - k) s ≡ (letter (next_state s) ∷ []) ++ letters (n - (k + 1)) (next_state s)
unfolding letters
letters_at n k s lt = ap (λ m. letters m s) (less n k lt)

state_at : (n k s : ℕ) → k < n → state_after (n - k) s ≡ state_after (n - (k + 1)) (next_state s)
unfolding state_after
state_at n k s lt = ap (λ m. state_after m s) (less n k lt)

pub letters_put : (n k s t : ℕ) (text new : List ℕ) → k < n → t ≡ next_state s → new ≡ text ++ letter t ∷ []
    → new ++ letters (n - (k + 1)) t ≡ text ++ letters (n - k) s
letters_put n k s t text new lt is put =
    put_first text (letter t ∷ []) new (letters (n - (k + 1)) t) (letters (n - k) s) put
    (letters_at n k s lt ∙ ap (λ u. (letter u ∷ []) ++ letters (n - (k + 1)) u) (sym is))

pub state_put : (n k s t : ℕ) → k < n → t ≡ next_state s → state_after (n - (k + 1)) t ≡ state_after (n - k) s
state_put n k s t lt is = ap (λ u. state_after (n - (k + 1)) u) is ∙ sym (state_at n k s lt)

pub letters_end : (n k s : ℕ) (text all : List ℕ) → n ≤ k → text ++ letters (n - k) s ≡ all → text ≡ all
unfolding letters
letters_end n k s text all le e = nothing_left text (letters (n - k) s) all (ap (λ m. letters m s) (none n k le)) e

pub state_end : (n k s t : ℕ) → n ≤ k → state_after (n - k) s ≡ t → s ≡ t
unfolding state_after
state_end n k s t le e = ap (λ m. state_after m s) (sym (none n k le)) ∙ e

-- ---- words

words_at : (n k number s : ℕ) → k < n
    → words (n - k) number s ≡ (word s ++ mark number (n - (k + 1))) ++ words (n - (k + 1)) (number + 1) (after_word s)
unfolding words
words_at n k number s lt = ap (λ m. words m number s) (less n k lt)

after_words_at : (n k s : ℕ) → k < n → after_words (n - k) s ≡ after_words (n - (k + 1)) (after_word s)
unfolding after_words
after_words_at n k s lt = ap (λ m. after_words m s) (less n k lt)

pub words_put : (n k s t left : ℕ) (text one two : List ℕ) → k < n → t ≡ after_word s → left ≡ n - (k + 1)
    → one ≡ text ++ word s → two ≡ one ++ mark (k + 1) left
    → two ++ words (n - (k + 1)) (k + 1 + 1) t ≡ text ++ words (n - k) (k + 1) s
words_put n k s t left text one two lt is left_is put marked =
    let more : two ≡ text ++ (word s ++ mark (k + 1) (n - (k + 1)))
    = marked ∙ ap₂ (λ xs m. xs ++ mark (k + 1) m) put left_is ∙ append_assoc text (word s) (mark (k + 1) (n - (k + 1))) in
    put_first text (word s ++ mark (k + 1) (n - (k + 1))) two (words (n - (k + 1)) (k + 1 + 1) t) (words (n - k) (k + 1) s) more
    (words_at n k (k + 1) s lt
    ∙ ap (λ u. (word s ++ mark (k + 1) (n - (k + 1))) ++ words (n - (k + 1)) (k + 1 + 1) u) (sym is))

pub after_words_put : (n k s t : ℕ) → k < n → t ≡ after_word s → after_words (n - (k + 1)) t ≡ after_words (n - k) s
after_words_put n k s t lt is = ap (λ u. after_words (n - (k + 1)) u) is ∙ sym (after_words_at n k s lt)

pub words_end : (n k number s : ℕ) (text all : List ℕ) → n ≤ k → text ++ words (n - k) number s ≡ all → text ≡ all
unfolding words
words_end n k number s text all le e =
    nothing_left text (words (n - k) number s) all (ap (λ m. words m number s) (none n k le)) e

pub after_words_end : (n k s t : ℕ) → n ≤ k → after_words (n - k) s ≡ t → s ≡ t
unfolding after_words
after_words_end n k s t le e = ap (λ m. after_words m s) (sym (none n k le)) ∙ e

-- ---- paragraphs

paragraphs_at : (n k s : ℕ) → k < n
    → paragraphs (n - k) s ≡ paragraph s ++ paragraphs (n - (k + 1)) (after_paragraph s)
unfolding paragraphs
paragraphs_at n k s lt = ap (λ m. paragraphs m s) (less n k lt)

pub paragraphs_put : (n k s t : ℕ) (text new : List ℕ) → k < n → t ≡ after_paragraph s → new ≡ text ++ paragraph s
    → new ++ paragraphs (n - (k + 1)) t ≡ text ++ paragraphs (n - k) s
paragraphs_put n k s t text new lt is put =
    put_first text (paragraph s) new (paragraphs (n - (k + 1)) t) (paragraphs (n - k) s) put
    (paragraphs_at n k s lt ∙ ap (λ u. paragraph s ++ paragraphs (n - (k + 1)) u) (sym is))

pub paragraphs_end : (n k s : ℕ) (text all : List ℕ) → n ≤ k → text ++ paragraphs (n - k) s ≡ all → text ≡ all
unfolding paragraphs
paragraphs_end n k s text all le e =
    nothing_left text (paragraphs (n - k) s) all (ap (λ m. paragraphs m s) (none n k le)) e
