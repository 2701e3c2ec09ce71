-- A random text, read off the draws that follow a state.
--     letters k s              k letters, one draw each
--     word s                   one draw for a word's length, then its letters
--     mark number left         what follows a word of a paragraph
--     words left number s      the words of a paragraph from one of them on, each with its mark
--     paragraph s              one draw for the count of words, then the words
--     paragraphs k s           k paragraphs
-- Beside each stands the state behind it.
use Rattle.std.specs.Prelude.{ℕ, zero, suc, ◌+◌, ◌%◌, ◌==◌, List, [], ◌∷◌, ◌++◌, codes}
use Rattle.std.specs.Prelude.{if◌then◌else◌}
use Rattle.micro_words.specs.Draws.{next_state, drawn, state_after}

-- a letter from a to z
abbrev pub letter : ℕ → ℕ
letter s = 97 + drawn s % 26

unfoldable pub letters : ℕ → ℕ → List ℕ
letters zero s = []
letters (suc k) s = letter (next_state s) ∷ letters k (next_state s)

-- a word has from one letter to nine
abbrev pub word_length : ℕ → ℕ
word_length s = 1 + drawn (next_state s) % 9

unfoldable pub word : ℕ → List ℕ
word s = letters (word_length s) (next_state s)

unfoldable pub after_word : ℕ → ℕ
after_word s = state_after (word_length s) (next_state s)

-- the last word of a paragraph ends it, and each seventh of the others has a comma
unfoldable pub mark : ℕ → ℕ → List ℕ
mark number zero = codes ".\n\n"
mark number (suc left) = if number % 7 == 0 then codes ", " else codes " "

-- so many words are left, and the first of them has this number, from 1
unfoldable pub words : ℕ → ℕ → ℕ → List ℕ
words zero number s = []
words (suc left) number s =
    word s ++ mark number left ++ words left (number + 1) (after_word s)

unfoldable pub after_words : ℕ → ℕ → ℕ
after_words zero s = s
after_words (suc left) s = after_words left (after_word s)

-- a paragraph has from 20 words to 79
abbrev pub word_count : ℕ → ℕ
word_count s = 20 + drawn (next_state s) % 60

unfoldable pub paragraph : ℕ → List ℕ
paragraph s = words (word_count s) 1 (next_state s)

unfoldable pub after_paragraph : ℕ → ℕ
after_paragraph s = after_words (word_count s) (next_state s)

unfoldable pub paragraphs : ℕ → ℕ → List ℕ
paragraphs zero s = []
paragraphs (suc k) s = paragraph s ++ paragraphs k (after_paragraph s)
