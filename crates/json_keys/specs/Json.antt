-- Reading a JSON value by its keys.
use Rattle.std.specs.Prelude.{ℕ, ℤ, List, ◌==◌, Option, Some, None, if◌then◌else◌}
use Rattle.std.specs.Str.{is_utf8}
use Rattle.serde_json.specs.Data.{Data, Members}
use Rattle.serde_json.specs.Events.{members_len}
use Rattle.serde_json.specs.Read.{read}
use Rattle.serde_json.specs.Find.{as_number, as_u64, as_i64, as_str, as_object, get_member}
use Rattle.rv_fields.specs.Attempt.{◌>>=◌}

-- the value of a text; none where the bytes are no JSON
abbrev pub document : List ℕ → Option Data
document bytes = if is_utf8 bytes then read bytes else None

-- An object with so many members. Keys are different, so one that has so many keys has no others.
abbrev pub object_of : ℕ → Data → Option Members
object_of count value = do
  members ← as_object value
  if members_len members == count then Some members else None

-- a whole number of 64 bits, without or with a sign
abbrev pub natural : Data → Option ℕ
natural value = do
  number ← as_number value
  as_u64 number

abbrev pub integer : Data → Option ℤ
integer value = do
  number ← as_number value
  as_i64 number

-- the members of these keys
abbrev pub natural_at : List ℕ → Members → Option ℕ
natural_at key members = do
  value ← get_member key members
  natural value

abbrev pub text_at : List ℕ → Members → Option (List ℕ)
text_at key members = do
  value ← get_member key members
  as_str value
