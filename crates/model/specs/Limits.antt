-- The limits of a case, each named once (01, "What a case may hold"). The code's are the associated constants of `Case`.
-- Assumes nothing.
use Rattle.std.specs.Prelude.{ℕ, Bool, ◌&&◌, eqb, leb}
use Rattle.permutation.specs.Permutation.{labels}

-- v is from lo to hi
abbrev pub between : ℕ → ℕ → ℕ → Bool
between lo hi v = leb lo v && leb v hi

-- the editions that a record may state
abbrev pub least_edition : ℕ
least_edition = 1

abbrev pub most_edition : ℕ
most_edition = 2

-- the edition that has lwsync and dependencies (02 (vi))
abbrev pub second : (edition : ℕ) → Bool
second edition = eqb edition 2

-- threads and addresses are the labels that the permutations move
abbrev pub most_threads : ℕ
most_threads = labels

abbrev pub most_addresses : ℕ
most_addresses = labels

abbrev pub most_events : ℕ
most_events = 64

abbrev pub most_value : ℕ
most_value = 4294967295

-- 02 (vi): "a count up to 96 of dependencies"
abbrev pub most_dependencies : ℕ
most_dependencies = 96

-- a name's bytes
abbrev pub most_name : ℕ
most_name = 32

-- 02 (xi): "Name bytes must be 32 to 126"
abbrev pub least_printable : ℕ
least_printable = 32

abbrev pub most_printable : ℕ
most_printable = 126
