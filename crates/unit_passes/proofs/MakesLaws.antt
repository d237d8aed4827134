-- What conversions and reconciliation make is what passes make.
use Rattle.std.proofs.Common.{◌≡◌, ℕ, Bool, true, false, [], refl, sym, ap, subst, ◌∙◌}
use Rattle.std.specs.Prelude.{Option, Some, None, Result, Ok, is_some}
use Rattle.std.proofs.lemmas.Bool.{false≢true}
use Rattle.pipeline_text.specs.declared.pass.PassName.{PassName}
use Rattle.plain_tree.specs.Ops.{Op}
use Rattle.conversion_model.specs.Conversion.{Pass, Supply, Unlegalised, conv}
use Rattle.conversion_model.specs.Fresh.{Fresh}
use Rattle.conversion_model.specs.Reconciled.{reconciled}
use Rattle.pattern_model.specs.PassTable.{pass_of, patterns_of, tree_by}
use Rattle.conversion_model.specs.Targets.{Mode}
use Rattle.conversion_target.specs.declared.target.Target.{Target}
use Rattle.conversion_target.specs.Targets.{target_of}
use Rattle.legal_graph.specs.declared.graph.Graph.{Graph}
use Rattle.pass_rows.specs.declared.set.PassRows.{PassRows}
use Rattle.pass_targets.specs.Known.{pass_target, target_or}
use Rattle.unit_choices.specs.Orders.{InOrder}
use Rattle.ready_passes.specs.declared.ready.ReadyPass.{ReadyPass}
use Rattle.pass_fold.specs.Makes.{PassMakes}
use Rattle.new_numbers.specs.declared.tops.Tops.{Tops}
use Rattle.new_numbers.specs.Tops.{over_op}
use Rattle.new_numbers.specs.Tables.{Numbering, Extends, supply_of}
use Rattle.new_numbers.proofs.FreshTables.{fresh_behind}
use Rattle.unit_choices.specs.Answers.{pass_of as pass_with}
use Rattle.unit_conversion.specs.Converts.{Converts}
use Rattle.ready_passes.specs.Runs.{blocks_or, mode_or, pass_blocks, pass_mode}

by_pass : (o : Option Pass) (bits : ℕ) (new : Supply) (f : Op) → is_some o ≡ true → conv (pass_with (patterns_of o) (target_or o) (mode_or o) (blocks_or o)) bits new f ≡ tree_by o bits new f
by_pass None bits new f some = absurd (false≢true some)
by_pass (Some p) bits new f some = refl

pub conversion_makes : (pass : PassName) (bits : ℕ) (f : Op) (r : Result Op Unlegalised) → is_some (pass_of pass) ≡ true
    → Converts (pass_with (patterns_of (pass_of pass)) (target_or (pass_of pass)) (pass_mode pass) (pass_blocks pass)) bits f r → PassMakes pass bits f r
conversion_makes pass bits f r some c = record {
  new = c.new;
  fresh = c.fresh;
  is = sym (by_pass (pass_of pass) bits c.new f some) ∙ c.is;
}

by_none : (o : Option Pass) (bits : ℕ) (new : Supply) (f : Op) → is_some o ≡ false → tree_by o bits new f ≡ Ok (reconciled f)
by_none None bits new f none = refl
by_none (Some p) bits new f none = absurd (false≢true (sym none))

-- there are fresh numbers for each function
some_fresh : (f : Op) → (new : Supply) × Fresh new f
some_fresh f =
    let none : Tops = record { values = 0; labels = 0 } in
    let t : Numbering = record { base = (over_op f none).values; values = []; label_base = (over_op f none).labels; labels = [] } in
    let same : Extends t t = record { base = refl; values = record { more = []; is = refl }; label_base = refl; labels = record { more = []; is = refl } } in
    (supply_of t, fresh_behind f none t t refl refl same)

pub reconciled_makes : (pass : PassName) (bits : ℕ) (f g : Op) → is_some (pass_of pass) ≡ false → g ≡ reconciled f → PassMakes pass bits f (Ok g)
reconciled_makes pass bits f g none is = let (new, fresh) = some_fresh f in record {
  new = new;
  fresh = fresh;
  is = by_none (pass_of pass) bits new f none ∙ ap (λ (x : Op). Ok x) (sym is);
}

-- The tables of a pass that is ready

pub ordered : (r : ReadyPass) (rows : PassRows) (target : Target) (graph : Graph) → rows ≡ r.rows → target ≡ r.target → graph ≡ r.graph
    → InOrder graph (target_of target) (patterns_of (pass_of rows.pass))
ordered r rows target graph of_rows of_target of_graph =
    subst (λ (g : Graph). InOrder g (target_of target) (patterns_of (pass_of rows.pass))) (sym of_graph)
    (subst (λ t. InOrder r.graph t (patterns_of (pass_of rows.pass))) (sym (ap target_of of_target ∙ r.target_is))
    (subst (λ p. InOrder r.graph (pass_target r.pass) (patterns_of (pass_of p))) (sym (ap (λ (x : PassRows). x.pass) of_rows ∙ r.rows_are)) r.in_order))

pub ready_makes : (r : ReadyPass) (rows : PassRows) (target : Target) (mode : Mode) (blocks : Bool) (bits given : ℕ) (f : Op) (x y : Result Op Unlegalised) → rows ≡ r.rows → target ≡ r.target
    → mode ≡ pass_mode r.pass → blocks ≡ pass_blocks r.pass → given ≡ bits → y ≡ x → is_some (pass_of r.pass) ≡ true
    → Converts (pass_with (patterns_of (pass_of rows.pass)) (target_of target) mode blocks) given f x → PassMakes r.pass bits f y
ready_makes r rows target mode blocks bits given f x y of_rows of_target of_mode of_blocks of_bits is some c =
    let table : patterns_of (pass_of rows.pass) ≡ patterns_of (pass_of r.pass) = ap (λ p. patterns_of (pass_of p)) (ap (λ (x : PassRows). x.pass) of_rows ∙ r.rows_are) in
    let wanted : target_of target ≡ pass_target r.pass = ap target_of of_target ∙ r.target_is in
    let same : pass_with (patterns_of (pass_of rows.pass)) (target_of target) mode blocks ≡ pass_with (patterns_of (pass_of r.pass)) (pass_target r.pass) (pass_mode r.pass) (pass_blocks r.pass)
    = ap (λ ps. pass_with ps (target_of target) mode blocks) table ∙ ap (λ t. pass_with (patterns_of (pass_of r.pass)) t mode blocks) wanted
    ∙ ap (λ m. pass_with (patterns_of (pass_of r.pass)) (pass_target r.pass) m blocks) of_mode ∙ ap (λ b. pass_with (patterns_of (pass_of r.pass)) (pass_target r.pass) (pass_mode r.pass) b) of_blocks in
    let own : Converts (pass_with (patterns_of (pass_of r.pass)) (pass_target r.pass) (pass_mode r.pass) (pass_blocks r.pass)) bits f x
    = subst (λ n. Converts (pass_with (patterns_of (pass_of r.pass)) (pass_target r.pass) (pass_mode r.pass) (pass_blocks r.pass)) n f x) of_bits (subst (λ p. Converts p given f x) same c) in
    subst (λ z. PassMakes r.pass bits f z) (sym is) (conversion_makes r.pass bits f x some own)
