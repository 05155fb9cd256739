-- How a text is cut into lines, and a line into words.
use Rattle.std.specs.Prelude.{ℕ, ◌+◌, cond, not, List, length, take, drop, Some, None, Option, ◌==◌}
use Rattle.std.specs.List.{prefix_len}
use Rattle.texts.specs.Classes.{blank}

-- How many bytes come before the first that is `stop`; all where there is none.
abbrev pub before : ℕ → List ℕ → ℕ
before stop bytes = prefix_len (λ b. not (b == stop)) bytes

-- The first line of a text, up to a line feed (10); none where nothing is left.
abbrev pub first_line : List ℕ → Option (List ℕ)
first_line text = cond (length text == 0) None (Some (take (before 10 text) text))

-- The lines after it.
abbrev pub later_lines : List ℕ → List ℕ
later_lines text = drop (before 10 text + 1) text

-- A line without its comment, which a # (35) starts.
abbrev pub uncommented : List ℕ → List ℕ
uncommented line = take (before 35 line) line

-- What is left of a line behind the blanks at its front.
abbrev pub unblanked : List ℕ → List ℕ
unblanked line = drop (prefix_len blank line) line

-- How long the word at the front is.
abbrev pub word_length : List ℕ → ℕ
word_length bytes = prefix_len (λ b. not (blank b)) bytes

-- The first word of a line; none where all is blank.
abbrev pub first_word : List ℕ → Option (List ℕ)
first_word line = cond (length (take (word_length (unblanked line)) (unblanked line)) == 0) None (Some (take (word_length (unblanked line)) (unblanked line)))

-- The words after it.
abbrev pub later_words : List ℕ → List ℕ
later_words line = drop (word_length (unblanked line)) (unblanked line)
