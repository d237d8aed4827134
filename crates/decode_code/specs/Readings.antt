-- What the decoding of a function looks up, as the definitions have it.
use Rattle.decode_code.specs.declared.operations.Context.{Context}
use Rattle.decode_code.specs.CodeBy.{Reading}
use Rattle.decode_code.specs.TypesIn.{types_in}

abbrev pub reading_of : Context → Reading
reading_of c = record { bits = c.bits.bits; types = types_in c.types; other = c.other.now }
