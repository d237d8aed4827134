use Rattle.std.proofs.Common.{◌≡◌, subst, sym}
use Rattle.std.specs.Prelude.{IfOk, slice_get}
use Rattle.cut_code.specs.Pieces.{cutting_at, pieces_or_none}
use Rattle.pass_rows.specs.declared.parts.Part.{Part}
use Rattle.pass_rows.specs.Parts.{patterns_in}
use Rattle.pass_rows.proofs.KindLaws.{no_cuts}
use Rattle.pass_rows.proofs.set.AllSets.cut_of.Goals as goal

pub returns-in-Scf : goal.returns-in-Scf
returns-in-Scf c = λ o same new type_of.
    subst (λ (p : Part). IfOk c.cut.result (λ ps. pieces_or_none new type_of ps ≡ cutting_at c.args.bits (slice_get (patterns_in p) c.args.place.at) new type_of o)) (sym c.in-Scf.is) (c.cut.ensures o same new type_of)

pub returns-in_default : goal.returns-in_default
returns-in_default c = λ o same new type_of. no_cuts c.args.place.part c.args.bits c.args.place.at new type_of o c.in_default.not-Scf
