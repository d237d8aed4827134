-- The words that add to their region.
use Rattle.std.specs.Prelude.{Bool, true, false}
use Rattle.text_grammar.specs.declared.places.Place.{Place}
use Rattle.text_grammar.specs.declared.places.Place.TheVariants as places

abbrev pub adds : Place → Bool
adds places.OpName = true
adds places.ArgName = true
adds places.BlockLabel = true
adds places.UseName = true
adds places.SuccessorName = true
adds places.PropsOpen = true
adds places.DictOpen = true
adds places.SignatureOpen = true
adds _ = false
