-- What a form is told by, as the definitions have it.
use Rattle.std.specs.Prelude.{map}
use Rattle.form_model.specs.Classes as model
use Rattle.form_model.specs.Decoding.{types_of}
use Rattle.form_code.specs.declared.seen.Seen.{Seen}

abbrev pub seen_view : Seen → model.Seen
seen_view s = record { bits = s.bits.bits; props = s.props.now; operands = map (λ t. t.now) s.operands.now; results = types_of s.results.now }
