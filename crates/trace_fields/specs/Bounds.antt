-- The bounds of what a trace tells.
use Rattle.std.specs.Prelude.{ℕ, ◌*◌, ◌^◌}

-- a decimal that counts something is below this
abbrev pub count_bound : ℕ
count_bound = 2 ^ 32

-- addresses, values and drawn words are below this
abbrev pub hex_bound : ℕ
hex_bound = 2 ^ 64

-- an instruction word and a byte are below these
abbrev pub word_bound : ℕ
word_bound = 2 ^ 32

abbrev pub byte_bound : ℕ
byte_bound = 2 ^ 8

-- registers, address spaces and the causes of traps are numbered below these
abbrev pub register_bound : ℕ
register_bound = 32

abbrev pub space_bound : ℕ
space_bound = 16

abbrev pub trap_bound : ℕ
trap_bound = 16

-- so many labels a path has at most, so many bytes a line, and so many entries a trail
abbrev pub most_labels : ℕ
most_labels = 8

abbrev pub most_fixed_bytes : ℕ
most_fixed_bytes = 8

abbrev pub most_entries : ℕ
most_entries = 4

-- a number of so many bytes is below this
abbrev pub sized_bound : ℕ → ℕ
sized_bound size = 2 ^ (8 * size)

-- a reader takes fewer fields of a line than this
abbrev pub most_fields : ℕ
most_fields = 100
