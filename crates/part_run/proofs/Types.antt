-- Types of the code are within the limits.
use Rattle.num_type.specs.Types.{IsWithin}
use Rattle.num_type.specs.View.{type_of}
use Rattle.num_type.specs.declared.num_type.NumType.{NumType}

pub within : (t : NumType) → IsWithin (type_of t)
within t = record { one_bit = t.one_bit; bits = t.bits; least = t.least; most = t.most }
