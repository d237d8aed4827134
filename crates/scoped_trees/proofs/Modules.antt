-- The uses of a scoped module.
use Rattle.std.proofs.Common.{◌≡◌, ℕ, Bool, true, false, not, List, [], ◌∷◌, refl, sym, ap, ◌∙◌, subst}
use Rattle.std.specs.Prelude.{codes}
use Rattle.std.specs.List.{list_all}
use Rattle.std.proofs.lemmas.Bool.{false≢true}
use Rattle.mlir_lex.proofs.Lengths.{and-left, and-right}
use Rattle.text_grammar.specs.declared.places.Place.TheVariants as places
use Rattle.plain_tree.specs.Attrs.{Entries, dict_in}
use Rattle.plain_tree.specs.Ops.{Op}
use Rattle.text_model.specs.PrintedNames.{Names, names_along}
use Rattle.text_events.specs.declared.event.Event.{Event}
use Rattle.text_types.specs.Items.{Aliases, begun}
use Rattle.text_types.specs.Aliases.{aliases_of}
use Rattle.text_types.specs.Marks.{marked}
use Rattle.text_scopes.specs.declared.bodies.Class.{Class}
use Rattle.text_scopes.specs.declared.steps.Step.TheVariants as steps
use Rattle.text_scopes.specs.declared.tables.Names.TheVariants as names
use Rattle.text_scopes.specs.Bodies.{is_module, outside}
use Rattle.text_scopes.specs.Seen.{Turn}
use Rattle.text_scopes.specs.Tables.{definitions}
use Rattle.event_trees.specs.declared.counts.Counts.{Counts}
use Rattle.event_trees.specs.Numbers.{first_count, no_counts}
use Rattle.event_trees.specs.Roles.{numbers_at, terms_at}
use Rattle.printed_words.specs.Words.{PrintedWord}
use Rattle.printed_attrs.specs.Readable.{is_readable_dict}
use Rattle.printed_ops.specs.Named.{is_known_op}
use Rattle.printed_modules.specs.ModuleWords.{is_known, module_words, more_funcs, own_names}
use Rattle.printed_terms.proofs.SpellLemmas.{string_spelled}
use Rattle.printed_terms.proofs.SeenWords.{one_more, seen}
use Rattle.printed_marks.proofs.OpWords.{module_plain}
use Rattle.printed_marks.proofs.EventLemmas.{unmarked}
use Rattle.named_trees.specs.Named.{OpNamed}
use Rattle.named_trees.proofs.NamedOps.{names_are_once}
use Rattle.printed_trees.specs.Numbering.{Count, is_numbered, none_counted, past_values}
use Rattle.printed_trees.specs.Serving.{Serve, ServeLabels, Use, op_targets, region_targets}
use Rattle.printed_trees.specs.Roles.{at}
use Rattle.printed_trees.specs.Laws.{AreClasses, funcs_targets, funcs_uses, name_of}
use Rattle.printed_trees.proofs.Suffixes.{Suffix, next}
use Rattle.printed_trees.proofs.Parts.{first}
use Rattle.scoped_trees.specs.Scoped.{are_scoped_regions, is_among, is_scoped, is_scoped_func, results_of}
use Rattle.scoped_trees.specs.Laws.{NamesAgree, UsesAreServed}
use Rattle.scoped_trees.proofs.Turns.{fresh_back, is_fresh}
use Rattle.scoped_trees.proofs.Targets.{OpTargets, targets_told}
use Rattle.scoped_trees.proofs.States.{Aligned, Moved, Setting, St, aligned_listed, aligned_moved, event, listed_join, st, waits}
use Rattle.scoped_trees.proofs.Runs.{BodyRun, Quiet, body_listed, body_run, hush, lead_listed, quiet, quiet_listed, targets_end, uses_listed}
use Rattle.scoped_trees.proofs.Moves.{body_at, hushed_moves, module_moves, op_moves}
use Rattle.scoped_trees.proofs.Parts.{Is, props_read, quiet_join}
use Rattle.scoped_trees.proofs.Ops.{FuncRun, op_read}
use Rattle.scoped_trees.proofs.Values as values
use Rattle.scoped_trees.proofs.Labels as labels

-- Functions one after the other
data FuncsRun (g : Setting) : List Op → St → St → Type 0 where
  funcs_end : (x : St) → FuncsRun g [] x x
  funcs_more : (f : Op) (fs : List Op) {x y z : St} → FuncRun g (own_names f) f x y → FuncsRun g fs y z → FuncsRun g (f ∷ fs) x z

record FuncsTo (g : Setting) (fs : List Op) (x : St) : Type 0 where
  last : St
  run : FuncsRun g fs x last

not_is : (b : Bool) → not b ≡ true → b ≡ false
not_is true h = sym h
not_is false h = refl

module _ (g : Setting) (classify : List ℕ → Class) (classes : AreClasses classify g.wording g.class g.all) where
  -- the name of a function is none of a module
  no_module : (number : ℕ) (name : List ℕ) (rest : List Event) → Suffix g.all (event places.OpName number ∷ rest) → g.wording.spelled number ≡ name → is_module (classify name) ≡ false → is_module (g.class number) ≡ false
  no_module number name rest s e h = ap is_module (classes number s.front rest s.is) ∙ ap (λ b. is_module (classify b)) e ∙ h

  funcs_run : (fs : List Op) (rest : List PrintedWord) (es : List Event) (at_module : Bool) (vs ls : List Turn) → list_all (λ f. is_known_op (own_names f) f) fs ≡ true → list_all (λ f. not (is_module (classify (name_of f)))) fs ≡ true
      → list_all (is_numbered none_counted) fs ≡ true → Is g (names_along []) (more_funcs fs rest) es → FuncsTo g fs (st (at (body_at 0 at_module) none_counted) vs ls es)
  funcs_run [] rest es at_module vs ls know classed numbered t = record { last = _; run = funcs_end _ }
  funcs_run (f ∷ fs) rest es at_module vs ls know classed numbered t =
      let o = op_read g (own_names f) (codes "  ") f (more_funcs fs rest) es (and-left _ _ know) t in
      let plain : is_module (g.class o.number) ≡ false = no_module o.number (name_of f) o.others o.there o.spelled (not_is (is_module (classify (name_of f))) (and-left _ _ classed)) in
      let r = o.function at_module vs ls plain (and-left _ _ numbered) in
      let more = funcs_run fs rest o.behind false r.values r.labels (and-right (is_known_op (own_names f) f) _ know) (and-right (not (is_module (classify (name_of f)))) _ classed) (and-right (is_numbered none_counted f) _ numbered) o.told_behind in
      record { last = more.last; run = funcs_more f fs r.run more.run }

module _ (g : Setting) (agree : NamesAgree g.wording g.all) where
  quiet_fresh : (n : Names) {x y : St} → Quiet g n x y → is_fresh x.values ≡ true → is_fresh y.values ≡ true
  quiet_fresh n (hush x) h = h
  quiet_fresh n (quiet e m more) h = quiet_fresh n more (ap is_fresh m.values_is ∙ h)

  -- a function has no successors of its own
  function_labels : (n : Names) (known : ℕ → Bool) {o : Op} {x y : St} (ts : List ℕ) → BodyRun g n false o x y → OpNamed n o → OpTargets n o → is_scoped known (λ l. false) o ≡ true → Aligned g false x → ServeLabels g.numbers ts (labels.found g n agree y)
      → ServeLabels g.numbers (op_targets o ts) (labels.found g n agree x)
  function_labels n known ts (body_run _ k results operands regions [] lead uses (targets_end deep q) inner r) names aims h al s =
      let placed = aligned_listed g (listed_join g (lead_listed g n false lead) (listed_join g (uses_listed g n false false uses) (quiet_listed g n false false q))) al in
      labels.served_by g n agree (region_targets regions ts) (labels.found_lead g n agree lead ∙ labels.found_uses g n agree uses ∙ labels.found_quiet g n agree q)
      (labels.regions_serve g n agree known ts inner names.1 aims.1 (and-right (list_all known operands) _ h) placed (labels.served_by g n agree ts (labels.found_quiet g n agree r) s))
  function_labels n known ts (body_run _ k results operands regions (l ∷ ls) lead uses targets inner r) names aims h al s = absurd (false≢true (and-left (list_all (λ (j : ℕ). false) (l ∷ ls)) (are_scoped_regions known regions) (and-right (list_all known operands) _ h)))

  -- of a function, and of those behind it
  record Both (us : List Use) (ts : List ℕ) (x : St) : Type 0 where
    uses : Serve g.numbers us (values.found g (names_along []) agree x)
    targets : ServeLabels g.numbers ts (labels.found g (names_along []) agree x)

  funcs_serve : (fs : List Op) {x y : St} → FuncsRun g fs x y → list_all (is_numbered none_counted) fs ≡ true → list_all is_scoped_func fs ≡ true → is_fresh x.values ≡ true → Aligned g true x → Aligned g false x → Both (funcs_uses fs) (funcs_targets fs) x
  funcs_serve [] run numbered scoped fresh al bl = record { uses = tt; targets = tt }
  funcs_serve (f ∷ fs) {x} (funcs_more _ _ {y = y} r more) numbered scoped fresh al bl =
      let n = own_names f in
      let named : OpNamed (own_names f) f = names_are_once f (and-left _ _ numbered) in
      let fresh_behind : is_fresh y.values ≡ true = quiet_fresh (own_names f) r.rest (ap is_fresh r.ends.values_is) in
      let al_behind = aligned_listed g (quiet_listed g (own_names f) true true r.rest) (aligned_moved g true r.ends (aligned_listed g (body_listed g (own_names f) true r.front) al)) in
      let bl_behind = aligned_listed g (quiet_listed g (own_names f) false false r.rest) (aligned_moved g false r.ends (aligned_listed g (body_listed g (own_names f) false r.front) bl)) in
      let others = funcs_serve fs more (and-right (is_numbered none_counted f) _ numbered) (and-right (is_scoped_func f) _ scoped) fresh_behind al_behind bl_behind in
      let look = values.function_looks g (own_names f) agree named r.front r.ends al (fresh_back (values.R g (own_names f) agree) x.values fresh) in
      record {
        uses = values.body_serve g (own_names f) agree (λ l. false) (funcs_uses fs) r.front named (and-left _ _ scoped) look
            (values.served_by g (own_names f) agree (funcs_uses fs) (values.found_still g (own_names f) agree refl r.ends ∙ values.found_quiet g (own_names f) agree r.rest) others.uses);
        targets = function_labels (own_names f) (λ v. is_among v (results_of f)) (funcs_targets fs) r.front named (targets_told f) (and-left _ _ scoped) bl
            (labels.served_by g (own_names f) agree (funcs_targets fs) (labels.found_still g (own_names f) agree refl r.ends ∙ labels.found_quiet g (own_names f) agree r.rest) others.targets);
      }

  -- from the begin of a module on
  module_serve : (classify : List ℕ → Class) → AreClasses classify g.wording g.class g.all → (props attrs : Entries) (fs : List Op) (es : List Event) → is_module (classify (codes "builtin.module")) ≡ true
      → list_all (λ f. not (is_module (classify (name_of f)))) fs ≡ true → is_known (record { props = props; attrs = attrs; funcs = fs }) ≡ true → list_all (is_numbered none_counted) fs ≡ true → list_all is_scoped_func fs ≡ true
      → Is g (names_along []) (module_words (record { props = props; attrs = attrs; funcs = fs })) es → Aligned g true (st no_counts [] [] es) → Aligned g false (st no_counts [] [] es) → Both (funcs_uses fs) (funcs_targets fs) (st no_counts [] [] es)
  module_serve classify classes props attrs [] es itself classed know numbered scoped t al bl = record { uses = tt; targets = tt }
  module_serve classify classes props attrs (f ∷ fs) es itself classed know numbered scoped (one_more w k {es = es1} says there (one_more x p {es = es2} said _ (one_more y q {es = zs} close _ t))) al bl =
      let n : Names = names_along [] in
      let part = props_read g (names_along []) props _ zs t in
      let r = first g.words g.wording g.aliases g.class g.numbers g.all part.told_behind in
      let o = first g.words g.wording g.aliases g.class g.numbers g.all r.here in
      let itself_is : is_module (g.class k) ≡ true = ap is_module (classes k there.front es1 there.is) ∙ ap (λ bs. is_module (classify bs)) (says ∙ string_spelled (codes "builtin.module") refl) ∙ itself in
      let c1 : Count = past_values none_counted (first_count (waits g es1)) in
      let c : Counts = at (body_at 0 (is_module (g.class k))) c1 in
      let first_turns : List Turn = (steps.Stays, event places.OperandsClose q) ∷ (steps.Stays, event places.OperandsOpen p) ∷ (steps.Stays, event places.OpName k) ∷ [] in
      let pr = part.go c first_turns first_turns in
      let open_turn : Turn = (steps.Stays, event places.RegionsOpen r.name) in
      let head : Quiet g (names_along []) (st no_counts [] [] es) (st c pr.values pr.labels part.behind) =
      quiet (event places.OpName k) (op_moves g k es1 outside none_counted 0 [] []) (quiet (event places.OperandsOpen p) (hushed_moves g places.OperandsOpen p es2 c refl _ _) (quiet (event places.OperandsClose q) (hushed_moves g places.OperandsClose q zs c refl _ _) pr.run)) in
      let tail : Quiet g (names_along []) (st c pr.values pr.labels part.behind) (st c (open_turn ∷ pr.values) (open_turn ∷ pr.labels) r.behind) =
      subst (λ (ys : List Event). Quiet g (names_along []) (st c pr.values pr.labels ys) (st c (open_turn ∷ pr.values) (open_turn ∷ pr.labels) r.behind)) (sym r.is)
      (quiet (event places.RegionsOpen r.name) (hushed_moves g places.RegionsOpen r.name r.behind c refl pr.values pr.labels) (hush _)) in
      let all_quiet = quiet_join g (names_along []) head tail in
      let e : Event = event places.RegionOpen o.name in
      let begin : St = st (at (body_at 0 true) none_counted) ((steps.Ends, e) ∷ open_turn ∷ pr.values) ((steps.Opens, e) ∷ open_turn ∷ pr.labels) o.behind in
      let opens : Moved g steps.Ends steps.Opens e (st c (open_turn ∷ pr.values) (open_turn ∷ pr.labels) r.behind) begin =
      subst (λ (ys : List Event). Moved g steps.Ends steps.Opens e (st c (open_turn ∷ pr.values) (open_turn ∷ pr.labels) ys) begin) (sym o.is) (module_moves g o.name o.behind (is_module (g.class k)) c1 itself_is (open_turn ∷ pr.values) (open_turn ∷ pr.labels)) in
      let funcs_known : list_all (λ f. is_known_op (own_names f) f) (f ∷ fs) ≡ true = and-right (is_readable_dict (dict_in attrs)) _ (and-right (is_readable_dict (dict_in props)) _ know) in
      let run = funcs_run g classify classes (f ∷ fs) _ o.behind true ((steps.Ends, e) ∷ open_turn ∷ pr.values) ((steps.Opens, e) ∷ open_turn ∷ pr.labels) funcs_known classed numbered o.here in
      let served = funcs_serve (f ∷ fs) run.run numbered scoped refl (aligned_moved g true opens (aligned_listed g (quiet_listed g (names_along []) true true all_quiet) al)) (aligned_moved g false opens (aligned_listed g (quiet_listed g (names_along []) false false all_quiet) bl)) in
      record {
        uses = values.served_by g (names_along []) agree (funcs_uses (f ∷ fs)) (values.found_quiet g (names_along []) agree all_quiet ∙ values.found_still g (names_along []) agree refl opens) served.uses;
        targets = labels.served_by g (names_along []) agree (funcs_targets (f ∷ fs)) (labels.found_quiet g (names_along []) agree all_quiet ∙ labels.found_still g (names_along []) agree refl opens) served.targets;
      }

pub uses_are_served : UsesAreServed
uses_are_served words wording classify class m es told classes itself classed agree know numbered scoped = (
  subst (λ ts. Serve (numbers_at wording class es ts) (funcs_uses m.funcs) (definitions names.Values class es)) (sym terms) both.uses,
  subst (λ ts. ServeLabels (numbers_at wording class es ts) (funcs_targets m.funcs) (definitions names.Labels class es)) (sym terms) both.targets,
)
  where
    aliases : Aliases
    aliases = aliases_of words (marked es)

    terms : terms_at words es ≡ begun words aliases es
    terms = ap (begun words aliases) (unmarked words wording told (module_plain m))

    g : Setting
    g = record { words = words; wording = wording; aliases = aliases; class = class; numbers = numbers_at wording class es (begun words aliases es); all = es }

    both : Both g agree (funcs_uses m.funcs) (funcs_targets m.funcs) (st no_counts [] [] es)
    both = module_serve g agree classify classes m.props m.attrs m.funcs es itself classed know numbered scoped (seen words wording (Suffix es) (λ e rest. next es e rest) (record { front = []; is = refl }) told) refl refl
