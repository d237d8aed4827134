-- The table is one whose next token decides, so that the machine reads exactly what it describes. The conditions are computed.
use Rattle.std.proofs.Common.{◌≡◌, Bool, true, false, [], ◌∷◌, Some, refl}
use Rattle.line_grammar.specs.Conditions.{at_place, implies, decided, made, plain_rests, IsLl}
use Rattle.text_grammar.specs.declared.kinds.Kind.{Kind}
use Rattle.text_grammar.specs.declared.kinds.Kind.TheVariants as kinds
use Rattle.text_grammar.specs.declared.places.Place.{Place}
use Rattle.text_grammar.specs.declared.places.Place.TheVariants as places
use Rattle.text_grammar.specs.declared.parts.Part.{Part}
use Rattle.text_grammar.specs.declared.parts.Part.TheVariants as parts
use Rattle.text_grammar.specs.Kinds.{number, every}
use Rattle.text_grammar.specs.Places.{fits_at, kinds_at}
use Rattle.text_grammar.specs.Table.{generic, lines_of}
use Rattle.text_grammar.specs.Text.{start}
use Rattle.text_grammar.proofs.Follow.{follow}

-- the places that may complete a text, whatever stands before: those where nothing is refused, and no alias stands
abbrev pub plain : Place → Bool
plain places.DimensionSize = false
plain places.TypeAlias = false
plain places.ElementAlias = false
plain places.AttrAlias = false
plain places.DottedType = false
plain places.UnsupportedTypeWord = false
plain places.UnsupportedInnerWord = false
plain places.UnsupportedAttrWord = false
plain places.UnsupportedAliasWord = false
plain places.RefusedLayout = false
plain places.RefusedColons = false
plain _ = true

has_every : (k : Kind) → at_place (number k) every ≡ Some k
has_every kinds.Value = refl
has_every _ = refl

each_decided : (n : Part) → decided generic every follow n ≡ true
each_decided parts.File = refl
each_decided _ = refl

abbrev sample : Place → Kind
sample p = elim (kinds_at p) [ [] ↦ kinds.Word | k ∷ ks ↦ k ]

sample_fits : (p : Place) → implies (plain p) (fits_at p (sample p)) ≡ true
sample_fits places.OpName = refl
sample_fits _ = refl

each_plain : (n : Part) → plain_rests plain (lines_of n) ≡ true
each_plain parts.File = refl
each_plain _ = refl

each_made : (n : Part) → made generic plain 9 n ≡ true
each_made parts.File = refl
each_made _ = refl

pub generic_ll : IsLl generic every follow plain start
generic_ll = record {
  place = number;
  has_every = has_every;
  each_decided = each_decided;
  start_closed = refl;
  sample = sample;
  sample_fits = sample_fits;
  each_plain = each_plain;
  start_plain = refl;
  depth = 9;
  each_made = each_made;
}
