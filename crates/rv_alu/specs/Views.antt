-- What the types of this crate are in the definitions of the machine.
use Rattle.std.specs.Prelude.{ℕ}
use Rattle.rv_fields.specs.Meaning as meaning
use Rattle.rv_alu.specs.declared.width.Width.{Width}
use Rattle.rv_alu.specs.declared.width.Width.TheVariants.{Word, Doubleword}
use Rattle.rv_alu.specs.declared.operation.Operation.{Operation}
use Rattle.rv_alu.specs.declared.operation.Operation.TheVariants.{Second, Sum, Difference, ExclusiveOr, InclusiveOr, Conjunction, LeftShift, LogicalRightShift, ArithmeticRightShift, SetIfLess, SetIfLessUnsigned, Product, UpperProduct, UpperProductUnsigned, UpperProductSignedUnsigned, Quotient, QuotientUnsigned, Remainder, RemainderUnsigned, Least, Greatest, LeastUnsigned, GreatestUnsigned}
use Rattle.rv_alu.specs.declared.computation.Computation.{Computation}

abbrev pub bits_seen : Width → ℕ
bits_seen Word = 32
bits_seen Doubleword = 64

abbrev pub operation_seen : Operation → meaning.Operation
operation_seen Second = meaning.second
operation_seen Sum = meaning.sum
operation_seen Difference = meaning.difference
operation_seen ExclusiveOr = meaning.exclusive_or
operation_seen InclusiveOr = meaning.inclusive_or
operation_seen Conjunction = meaning.conjunction
operation_seen LeftShift = meaning.left_shift
operation_seen LogicalRightShift = meaning.logical_right_shift
operation_seen ArithmeticRightShift = meaning.arithmetic_right_shift
operation_seen SetIfLess = meaning.set_if meaning.is_less
operation_seen SetIfLessUnsigned = meaning.set_if meaning.is_less_unsigned
operation_seen Product = meaning.product
operation_seen UpperProduct = meaning.upper_product
operation_seen UpperProductUnsigned = meaning.upper_product_unsigned
operation_seen UpperProductSignedUnsigned = meaning.upper_product_signed_unsigned
operation_seen Quotient = meaning.quotient
operation_seen QuotientUnsigned = meaning.quotient_unsigned
operation_seen Remainder = meaning.remainder
operation_seen RemainderUnsigned = meaning.remainder_unsigned
operation_seen Least = meaning.least
operation_seen Greatest = meaning.greatest
operation_seen LeastUnsigned = meaning.least_unsigned
operation_seen GreatestUnsigned = meaning.greatest_unsigned

abbrev pub computation_seen : Computation → meaning.Computation
computation_seen c = record { bits = bits_seen c.width; operation = operation_seen c.operation }
