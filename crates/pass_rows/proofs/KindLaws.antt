-- Sets none of whose rows frames, or cuts.
use Rattle.std.proofs.Common.{◌≡◌, ℕ, zero, suc, Bool, true, false, List, [], ◌∷◌, Option, Some, None, refl, sym, ap, ◌∙◌}
use Rattle.std.specs.Prelude.{slice_get}
use Rattle.std.proofs.lemmas.Bool.{and_parts, false≢true}
use Rattle.plain_tree.specs.Types.{PlainType}
use Rattle.plain_tree.specs.Ops.{Op}
use Rattle.conversion_model.specs.Targets.{Shape}
use Rattle.conversion_model.specs.Rows.{Numbers, Pattern, Row, Straight, Cutting, Framing}
use Rattle.cut_code.specs.Frames.{frame_or_none, framing, framing_at}
use Rattle.cut_code.specs.Pieces.{cutting, cutting_at}
use Rattle.pass_rows.specs.declared.parts.Part.{Part}
use Rattle.pass_rows.specs.declared.parts.Part.TheVariants.{Scf, Expand, Arith, Cf, Memref, Func, Cast}
use Rattle.pass_rows.specs.Parts.{patterns_in}
use Rattle.pass_rows.specs.Kinds.{all_cut_none, all_frame_none, cuts_none, frames_none}

row_frames : (row : Row) (o : Shape) → frames_none row ≡ true → framing row o ≡ None
row_frames (Straight row) o e = refl
row_frames (Cutting row) o e = refl
row_frames (Framing row) o e = absurd (false≢true e)

frames : (bits : ℕ) (ps : List Pattern) (k : ℕ) (o : Shape) → all_frame_none bits ps ≡ true → framing_at bits (slice_get ps k) o ≡ None
frames bits [] k o e = refl
frames bits (p ∷ ps) zero o e = row_frames (p.row bits) o (and_parts (frames_none (p.row bits)) (all_frame_none bits ps) e).0
frames bits (p ∷ ps) (suc k) o e = frames bits ps k o (and_parts (frames_none (p.row bits)) (all_frame_none bits ps) e).1

-- no set but that of functions frames
pub no_frames : (part : Part) (bits k : ℕ) (o : Shape) → (part ≡ Func → ⊥) → None ≡ frame_or_none (framing_at bits (slice_get (patterns_in part) k) o)
no_frames Scf bits k o n = sym (ap frame_or_none (frames bits (patterns_in Scf) k o refl))
no_frames Expand bits k o n = sym (ap frame_or_none (frames bits (patterns_in Expand) k o refl))
no_frames Arith bits k o n = sym (ap frame_or_none (frames bits (patterns_in Arith) k o refl))
no_frames Cf bits k o n = sym (ap frame_or_none (frames bits (patterns_in Cf) k o refl))
no_frames Memref bits k o n = sym (ap frame_or_none (frames bits (patterns_in Memref) k o refl))
no_frames Func bits k o n = absurd (n refl)
no_frames Cast bits k o n = sym (ap frame_or_none (frames bits (patterns_in Cast) k o refl))

row_cuts : (row : Row) (new : Numbers) (type_of : ℕ → PlainType) (o : Op) → cuts_none row ≡ true → cutting row new type_of o ≡ None
row_cuts (Straight row) new type_of o e = refl
row_cuts (Cutting row) new type_of o e = absurd (false≢true e)
row_cuts (Framing row) new type_of o e = refl

cuts : (bits : ℕ) (ps : List Pattern) (k : ℕ) (new : Numbers) (type_of : ℕ → PlainType) (o : Op) → all_cut_none bits ps ≡ true → cutting_at bits (slice_get ps k) new type_of o ≡ None
cuts bits [] k new type_of o e = refl
cuts bits (p ∷ ps) zero new type_of o e = row_cuts (p.row bits) new type_of o (and_parts (cuts_none (p.row bits)) (all_cut_none bits ps) e).0
cuts bits (p ∷ ps) (suc k) new type_of o e = cuts bits ps k new type_of o (and_parts (cuts_none (p.row bits)) (all_cut_none bits ps) e).1

-- no set but that of scf cuts
pub no_cuts : (part : Part) (bits k : ℕ) (new : Numbers) (type_of : ℕ → PlainType) (o : Op) → (part ≡ Scf → ⊥) → None ≡ cutting_at bits (slice_get (patterns_in part) k) new type_of o
no_cuts Scf bits k new type_of o n = absurd (n refl)
no_cuts Expand bits k new type_of o n = sym (cuts bits (patterns_in Expand) k new type_of o refl)
no_cuts Arith bits k new type_of o n = sym (cuts bits (patterns_in Arith) k new type_of o refl)
no_cuts Cf bits k new type_of o n = sym (cuts bits (patterns_in Cf) k new type_of o refl)
no_cuts Memref bits k new type_of o n = sym (cuts bits (patterns_in Memref) k new type_of o refl)
no_cuts Func bits k new type_of o n = sym (cuts bits (patterns_in Func) k new type_of o refl)
no_cuts Cast bits k new type_of o n = sym (cuts bits (patterns_in Cast) k new type_of o refl)
