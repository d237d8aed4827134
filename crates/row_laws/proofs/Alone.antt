-- One operation of the same form in place of the root.
use Rattle.std.proofs.Common.{◌≡◌, ℕ, List, [], ◌∷◌, length, Some, Bool, true, false, refl, sym, ap, subst, ◌∙◌, arith}
use Rattle.std.specs.Prelude.{◌==◌, if◌then◌else◌}
use Rattle.operation_model.specs.Values.{Value}
use Rattle.operation_model.specs.Doings.{Doing, Outside}
use Rattle.operation_model.specs.Straight.{does}
use Rattle.operation_model.specs.Forms.{Form}
use Rattle.plain_tree.specs.Types.{PlainType}
use Rattle.conversion_model.specs.declared.templates.Source.{Source}
use Rattle.conversion_model.specs.Templates.{Step, Template}
use Rattle.conversion_model.specs.Targets.{Shape}
use Rattle.sound_model.specs.Refinement.{Refines}
use Rattle.sound_model.specs.Runs.{if_there, items_of, labels_in, counted, form_at, operation_runs, root_form, root_runs, template_runs}
use Rattle.sound_model.proofs.Refining.{refines_refl, then_on_refines}

-- as many results as types, of both
if_counted : (m n : ℕ) → (m == n) ≡ true → m ≡ n
if_counted m n h = grind arith

pub counted_too : (results makes : List PlainType) (ys : List Value) (d e : Doing) → length makes ≡ length results → (length ys ≡ length makes → Refines d e)
    → Refines (counted results ys d) (counted makes ys e)
counted_too results makes ys d e same h = subst (λ n. Refines (counted results ys d) (if length ys == n then e else Outside)) (sym same) (go (length ys == length results) refl)
  where
    go : (b : Bool) → (length ys == length results) ≡ b → Refines (if b then d else Outside) (if b then e else Outside)
    go true t = h (if_counted _ _ t ∙ sym same)
    go false t = tt

-- an operation of a form, and what follows the same
pub ends_form : (form : Form) (args : List Value) (labels : List ℕ) (results makes : List PlainType) (next rest : List Value → Doing)
    → length makes ≡ length results → ((ys : List Value) → length ys ≡ length makes → rest ys ≡ next ys)
    → Refines (operation_runs form results labels args next) (operation_runs form makes labels args rest)
ends_form form args labels results makes next rest same all =
    then_on_refines (does form labels args) _ _ λ ys.
    counted_too results makes ys (next ys) (rest ys) same λ n. subst (λ d. Refines (next ys) d) (sym (all ys n)) (refines_refl (next ys))

-- an operation of a form, whose results are those of the root
same_form : (form : Form) (args : List Value) (labels : List ℕ) (results makes : List PlainType) (outs : List Source) (next : List Value → Doing)
    → length makes ≡ length results → ((ys : List Value) → length ys ≡ length makes → items_of args ys outs ≡ Some ys)
    → Refines (operation_runs form results labels args next) (operation_runs form makes labels args (λ ys. if_there (items_of args ys outs) next))
same_form form args labels results makes outs next same all =
    ends_form form args labels results makes next (λ ys. if_there (items_of args ys outs) next) same (λ ys n. ap (λ vs. if_there vs next) (all ys n))

-- a template of one step
abbrev pub alone : Step → List Source → Template
alone x outs = record { steps = x ∷ []; results = outs }

pub alone_runs : (bits : ℕ) (o : Shape) (types : List PlainType) (x : Step) (outs : List Source) (args : List Value) (labels : List ℕ) (next : List Value → Doing) (ts : List PlainType)
    → items_of types [] x.sources ≡ Some ts → items_of args [] x.sources ≡ Some args → labels_in labels x.successors ≡ Some labels
    → form_at bits x.name x.props ts x.makes ≡ root_form bits o → length x.makes ≡ length o.results
    → ((ys : List Value) → length ys ≡ length x.makes → items_of args ys outs ≡ Some ys)
    → Refines (root_runs bits o args labels next) (template_runs bits types args labels (alone x outs) next)
alone_runs bits o types x outs args labels next ts e f g h same all = rw (e, f, g, h) (same_form (root_form bits o) args labels o.results x.makes outs next same all)
