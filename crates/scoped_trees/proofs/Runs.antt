-- The events between two states as the words of an operation, a region or a block.
use Rattle.std.proofs.Common.{◌≡◌, ℕ, ◌+◌, Bool, true, false, List, [], ◌∷◌, ◌++◌, refl}
use Rattle.std.specs.Prelude.{codes, decimal}
use Rattle.text_grammar.specs.declared.kinds.Kind.TheVariants as kinds
use Rattle.text_grammar.specs.declared.places.Place.{Place}
use Rattle.plain_tree.specs.Types.{PlainType}
use Rattle.plain_tree.specs.Ops.{Kind, Op, op, Ops, end_of_ops, more_ops, Regions, end_of_regions, region, Blocks, end_of_blocks, block, Values}
use Rattle.text_model.specs.PrintedNames.{Names}
use Rattle.text_model.specs.PrintedOps.{found_label, found_number}
use Rattle.text_events.specs.declared.event.Event.{Event}
use Rattle.text_scopes.specs.declared.steps.Step.{Step}
use Rattle.text_scopes.specs.declared.steps.Step.TheVariants as steps
use Rattle.event_trees.specs.Numbers.{defined_at}
use Rattle.scope_laws.specs.Turns.{is_flat}
use Rattle.printed_ops.specs.Named.{is_named, is_placed, is_small}
use Rattle.printed_terms.specs.Told.{spells}
use Rattle.printed_trees.proofs.Suffixes.{Suffix}
use Rattle.scoped_trees.specs.Laws.{is_naming}
use Rattle.scoped_trees.proofs.Turns.{weaken}
use Rattle.scoped_trees.proofs.States.{Listed, Moved, Setting, St, event, listed_join, listed_nest, listed_one, listed_refl, pick}

-- what a successor is: those of a function stand for nothing
abbrev pub target_at : Bool → Step
target_at true = steps.Uses
target_at false = steps.Misses

module _ (g : Setting) (n : Names) where
  -- a name in the text
  pub record Spelt (a : ℕ) : Type 0 where
    pub place : Place
    pub rest : List Event
    pub naming : is_naming place ≡ true
    pub there : Suffix g.all (event place a ∷ rest)

  -- it is what is printed of a value, or of a label
  abbrev pub Calls : ℕ → ℕ → Type 0
  Calls v a = g.wording.spelled a ≡ spells kinds.Value (found_number (n.name v))

  abbrev pub CallsLabel : ℕ → ℕ → Type 0
  CallsLabel l a = g.wording.spelled a ≡ spells kinds.Label (found_label (n.position l))

  -- the definition of a value, with its number
  pub record Definition (u : ℕ) (x y : St) : Type 0 where
    pub e : Event
    pub moved : Moved g steps.Defines steps.Stays e x y
    pub spelt : Spelt e.name
    pub calls : Calls u e.name
    pub named : is_named (n.name u) ≡ true
    pub number : defined_at x.counts e.place ≡ u

  -- events that are nothing to names
  pub data Quiet : St → St → Type 0 where
    hush : (x : St) → Quiet x x
    quiet : (e : Event) {x y z : St} → Moved g steps.Stays steps.Stays e x y → Quiet y z → Quiet x z

  -- the results of an operation, and its name
  pub data LeadRun : Values → St → St → Type 0 where
    lead_none : {x y : St} → Quiet x y → LeadRun [] x y
    lead_some : (v : ℕ × PlainType) (vs : Values) {x a y : St} → Definition v.0 x a → Quiet a y → LeadRun (v ∷ vs) x y

  pub data UsesRun : List ℕ → St → St → Type 0 where
    uses_end : {x y : St} → Quiet x y → UsesRun [] x y
    uses_more : (v : ℕ) (vs : List ℕ) (e : Event) {x a b y : St} → Quiet x a → Moved g steps.Uses steps.Stays e a b → Spelt e.name → Calls v e.name → is_named (n.name v) ≡ true → UsesRun vs b y → UsesRun (v ∷ vs) x y

  pub data TargetsRun : Bool → List ℕ → St → St → Type 0 where
    targets_end : (deep : Bool) {x y : St} → Quiet x y → TargetsRun deep [] x y
    targets_more : (deep : Bool) (l : ℕ) (ls : List ℕ) (e : Event) {x a b y : St} → Quiet x a → Moved g steps.Stays (target_at deep) e a b → Spelt e.name → CallsLabel l e.name → is_placed (n.position l) ≡ true → TargetsRun deep ls b y
        → TargetsRun deep (l ∷ ls) x y

  -- the arguments of a block
  pub data ArgsRun : Values → St → St → Type 0 where
    args_end : {x y : St} → Quiet x y → ArgsRun [] x y
    args_more : (v : ℕ × PlainType) (vs : Values) {x a b y : St} → Quiet x a → Definition v.0 a b → ArgsRun vs b y → ArgsRun (v ∷ vs) x y

  mutual
    -- an operation up to its function type; in a region, or a function
    pub data BodyRun : Bool → Op → St → St → Type 0 where
      body_run : (deep : Bool) (k : Kind) (results : Values) (operands : List ℕ) (regions : Regions) (successors : List ℕ) {x a b c d y : St} → LeadRun results x a → UsesRun operands a b → TargetsRun deep successors b c → RegionsRun regions c d → Quiet d y
          → BodyRun deep (op k results operands regions successors) x y

    pub data OpsRun : Ops → St → St → Type 0 where
      ops_end : (x : St) → OpsRun end_of_ops x x
      ops_more : (o : Op) (os : Ops) {x a b y : St} → BodyRun true o x a → Quiet a b → OpsRun os b y → OpsRun (more_ops o os) x y

    pub data RegionsRun : Regions → St → St → Type 0 where
      regions_end : {x y : St} → Quiet x y → RegionsRun end_of_regions x y
      regions_more : (blocks : Blocks) (more : Regions) (e f : Event) {x a b c d y : St} → Quiet x a → Moved g steps.Opens steps.Opens e a b → BlocksRun 0 blocks b c → Moved g steps.Closes steps.Closes f c d → RegionsRun more d y → RegionsRun (region blocks more) x y

    -- blocks from a position on, the first one with its label or without
    pub data BlocksRun : ℕ → Blocks → St → St → Type 0 where
      blocks_end : (k : ℕ) (x : St) → BlocksRun k end_of_blocks x x
      blocks_label : (k label : ℕ) (args : Values) (ops : Ops) (more : Blocks) (e : Event) {x a b c y : St} → Moved g steps.Stays steps.Defines e x a → Spelt e.name → g.wording.spelled e.name ≡ spells kinds.Label (codes "^bb" ++ decimal k)
          → is_small k ≡ true → defined_at x.counts e.place ≡ label → ArgsRun args a b → OpsRun ops b c → BlocksRun (k + 1) more c y → BlocksRun k (block label args ops more) x y
      blocks_hidden : (k label : ℕ) (args : Values) (ops : Ops) (more : Blocks) {x b y : St} → args ≡ [] → n.is_target label ≡ false → OpsRun ops x b → BlocksRun (k + 1) more b y → BlocksRun k (block label args ops more) x y

  -- The turns between

  pub quiet_listed : (side d : Bool) {x y : St} → Quiet x y → Listed g side d x y
  quiet_listed side d (hush x) = listed_refl g side d x
  quiet_listed side d (quiet e m more) = listed_join g (listed_one g side d (flat side d) m) (quiet_listed side d more)
    where
      flat : (side d : Bool) → is_flat d (pick side steps.Stays steps.Stays) ≡ true
      flat true d = refl
      flat false d = refl

  flat_defines : (side : Bool) → is_flat side (pick side steps.Defines steps.Stays) ≡ true
  flat_defines true = refl
  flat_defines false = refl

  flat_uses : (side d : Bool) → is_flat d (pick side steps.Uses steps.Stays) ≡ true
  flat_uses true d = refl
  flat_uses false d = refl

  flat_targets : (side d deep : Bool) → is_flat d (pick side steps.Stays (target_at deep)) ≡ true
  flat_targets true d deep = refl
  flat_targets false d true = refl
  flat_targets false d false = refl

  flat_label : (side : Bool) → is_flat true (pick side steps.Stays steps.Defines) ≡ true
  flat_label true = refl
  flat_label false = refl

  pub definition_listed : (side : Bool) {u : ℕ} {x y : St} → Definition u x y → Listed g side side x y
  definition_listed side d = listed_one g side side (flat_defines side) d.moved

  pub lead_listed : (side : Bool) {vs : Values} {x y : St} → LeadRun vs x y → Listed g side side x y
  lead_listed side (lead_none q) = quiet_listed side side q
  lead_listed side (lead_some v vs d q) = listed_join g (definition_listed side d) (quiet_listed side side q)

  pub uses_listed : (side d : Bool) {vs : List ℕ} {x y : St} → UsesRun vs x y → Listed g side d x y
  uses_listed side d (uses_end q) = quiet_listed side d q
  uses_listed side d (uses_more v vs e q m s c h more) = listed_join g (quiet_listed side d q) (listed_join g (listed_one g side d (flat_uses side d) m) (uses_listed side d more))

  pub targets_listed : (side d : Bool) {deep : Bool} {ls : List ℕ} {x y : St} → TargetsRun deep ls x y → Listed g side d x y
  targets_listed side d (targets_end deep q) = quiet_listed side d q
  targets_listed side d (targets_more deep l ls e q m s c h more) = listed_join g (quiet_listed side d q) (listed_join g (listed_one g side d (flat_targets side d deep) m) (targets_listed side d more))

  pub args_listed : (side : Bool) {vs : Values} {x y : St} → ArgsRun vs x y → Listed g side side x y
  args_listed side (args_end q) = quiet_listed side side q
  args_listed side (args_more v vs q d more) = listed_join g (quiet_listed side side q) (listed_join g (definition_listed side d) (args_listed side more))

  pub wider : {side d : Bool} {x y : St} → Listed g side d x y → Listed g side true x y
  wider l = record { between = l.between; level = weaken l.level; ahead_is = l.ahead_is; before_is = l.before_is; own_is = l.own_is }

  mutual
    pub body_listed : (side : Bool) {deep : Bool} {o : Op} {x y : St} → BodyRun deep o x y → Listed g side side x y
    body_listed side (body_run deep k results operands regions successors lead uses targets inner q) =
        listed_join g (lead_listed side lead) (listed_join g (uses_listed side side uses) (listed_join g (targets_listed side side targets) (listed_join g (regions_listed side side inner) (quiet_listed side side q))))

    pub ops_listed : (side : Bool) {os : Ops} {x y : St} → OpsRun os x y → Listed g side side x y
    ops_listed side (ops_end x) = listed_refl g side side x
    ops_listed side (ops_more o os b q more) = listed_join g (body_listed side b) (listed_join g (quiet_listed side side q) (ops_listed side more))

    pub regions_listed : (side d : Bool) {rs : Regions} {x y : St} → RegionsRun rs x y → Listed g side d x y
    regions_listed side d (regions_end q) = quiet_listed side d q
    regions_listed side d (regions_more blocks rest e f q m inner l more) = listed_join g (quiet_listed side d q) (listed_join g (listed_nest g side d m (blocks_listed side inner) l) (regions_listed side d more))

    pub blocks_listed : (side : Bool) {k : ℕ} {bs : Blocks} {x y : St} → BlocksRun k bs x y → Listed g side true x y
    blocks_listed side (blocks_end k x) = listed_refl g side true x
    blocks_listed side (blocks_label k label args ops more e m s c h u a os rest) = listed_join g (listed_one g side true (flat_label side) m) (listed_join g (wider (args_listed side a)) (listed_join g (wider (ops_listed side os)) (blocks_listed side rest)))
    blocks_listed side (blocks_hidden k label args ops more none h os rest) = listed_join g (wider (ops_listed side os)) (blocks_listed side rest)
