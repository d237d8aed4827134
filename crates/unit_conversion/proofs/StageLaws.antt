-- The stages of a conversion put together.
use Rattle.std.proofs.Common.{◌≡◌, ℕ, Bool, List, [], ◌++◌, Some, Ok, Err, refl, sym, ap, ◌∙◌}
use Rattle.plain_tree.specs.Ops.{Op}
use Rattle.conversion_model.specs.Conversion.{Pass, Supply, Unlegalised, converted, finished, first_unlegalised, or_fails, replacements, with_blocks}
use Rattle.conversion_model.specs.Fresh.{Fresh}
use Rattle.conversion_model.specs.Rows.{Pattern}
use Rattle.conversion_model.specs.Targets.{Mode, Target}
use Rattle.conversion_model.specs.Uses.{copies_in, followed, op_uses, operations, types_of}
use Rattle.new_numbers.specs.Tables.{Extends, Numbering, supply_of}
use Rattle.new_numbers.specs.Tops.{over_op}
use Rattle.new_numbers.specs.declared.tops.Tops.{Tops}
use Rattle.new_numbers.proofs.FreshTables.{fresh_behind}
use Rattle.new_numbers.proofs.PlaceLaws.{extends_itself}
use Rattle.copy_uses.proofs.FollowLaws.{copies_left}
use Rattle.unit_choices.specs.Answers.{Chose, choice_demanded, pass_of}
use Rattle.conversion_model.specs.Conversion.{ways}
use Rattle.unit_slots.specs.declared.slots.Choices.{Choices}
use Rattle.unit_writer.specs.Functions.{IsWritten}
use Rattle.unit_writer.specs.Writes.{NotesView}
use Rattle.unit_conversion.specs.Converts.{Converts, IsMade, Replaces}

-- what is written, with uses of copies followed
pub replaces : (c : Choices) (f written g : Op) (old new : NotesView) → old.pairs ≡ [] → IsWritten c f old new written → g ≡ op_uses (followed new.pairs (λ v. v)) written → Replaces c new.table f g
replaces c f written g old new none h e u more p bits chose =
    let w = ways p bits (supply_of u) (types_of f) in
    let choice = choice_demanded p bits (supply_of u) (types_of f) 0 f in
    e ∙ copies_left (replacements p bits (supply_of u) f) written new.pairs
    (h.op u more w (types_of f) chose.slots choice chose.framing)
    (h.pairs u more w (types_of f) chose.slots choice chose.framing ∙ ap (λ ps. ps ++ copies_in (operations (replacements p bits (supply_of u) f))) none)

-- some numbers are fresh for each function
first_tops : Tops
first_tops = record { values = 0; labels = 0 }

first_table : Op → Numbering
first_table f = record { base = (over_op f first_tops).values; values = []; label_base = (over_op f first_tops).labels; labels = [] }

first_fresh : (f : Op) → Fresh (supply_of (first_table f)) f
unfolding first_table
first_fresh f = fresh_behind f first_tops (first_table f) (first_table f) refl refl (extends_itself (first_table f))

-- the whole where each operation is legalised
pub all_made : (mode : Mode) (blocks : Bool) (bits : ℕ) (c : Choices) (f replaced made g : Op) (t u : Numbering) → Extends t u
    → ((v : Numbering) → Extends t v → Fresh (supply_of v) f) → Replaces c t f replaced
    → ((v : Numbering) → Extends u v → made ≡ with_blocks blocks bits (supply_of v) replaced) → g ≡ finished mode made → IsMade mode blocks bits c f g
all_made mode blocks bits c f replaced made g t u more fresh replaces with_casts ends = record {
  new = supply_of u;
  fresh = fresh u more;
  is = λ table target chose.
      ends ∙ ap (finished mode) (with_casts u (extends_itself u) ∙ ap (with_blocks blocks bits (supply_of u)) (replaces u more (pass_of table target mode blocks) bits chose));
}

ok_err : {g : Op} {e : Unlegalised} → Ok g ≡ Err e → ⊥
ok_err e = absurd (cc)

pub converts_all : (table : List Pattern) (target : Target) (mode : Mode) (blocks : Bool) (bits : ℕ) (f g : Op) (c : Choices)
    → ((new : Supply) → Fresh new f → Chose (pass_of table target mode blocks) bits new f c) → IsMade mode blocks bits c f g → Converts (pass_of table target mode blocks) bits f (Ok g)
converts_all table target mode blocks bits f g c chose h =
    let p = pass_of table target mode blocks in
    let there = chose h.new h.fresh in record {
      new = h.new;
      fresh = h.fresh;
      is = ap (or_fails (converted p bits h.new f)) there.all ∙ ap Ok (sym (h.is table target there));
      refused = λ e is other fresh. absurd (ok_err is);
    }

-- the whole where one is not
pub converts_none : (p : Pass) (bits : ℕ) (f : Op) (e : Unlegalised)
    → ((new : Supply) → Fresh new f → first_unlegalised p bits new (types_of f) (operations f) ≡ Some e) → Converts p bits f (Err e)
converts_none p bits f e fails = record {
  new = supply_of (first_table f);
  fresh = first_fresh f;
  is = ap (or_fails (converted p bits (supply_of (first_table f)) f)) (fails (supply_of (first_table f)) (first_fresh f));
  refused = λ other same new fresh. ap (or_fails (converted p bits new f)) (fails new fresh) ∙ same;
}
