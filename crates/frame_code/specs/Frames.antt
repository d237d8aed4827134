-- Which places of the definition those of the code stand for, and what an operation with regions comes to without the memory.
use Rattle.std.specs.Prelude.{◌≡◌, ℕ, Bool, true, false, List, [], ◌∷◌, map, Option, Some, None}
use Rattle.number_model.specs.Answers.{present}
use Rattle.operation_model.specs.Values as values
use Rattle.operation_model.specs.Doings.{Question}
use Rattle.operation_model.specs.Forms as forms
use Rattle.form_model.specs.Codes.{Ops, Blocks, Regions, Env, bind}
use Rattle.form_model.specs.Codes as codes
use Rattle.machine_model.specs.Worlds.{Reply, Refuses, Undefined, Outside}
use Rattle.machine_model.specs.Machine as model
use Rattle.run_code.specs.declared.function.Block.{Block, out-Block}
use Rattle.run_code.specs.Views.{ops_of, blocks_of}
use Rattle.table_code.specs.Agreement.{Agrees}
use Rattle.round_code.specs.Counts.{counting_of}
use Rattle.frame_code.specs.declared.frame.Behind.{Behind}
use Rattle.frame_code.specs.declared.frame.Looping.{Looping}
use Rattle.frame_code.specs.declared.frame.Frame.{Frame}
use Rattle.frame_code.specs.declared.frame.Frame.TheVariants as frame
use Rattle.frame_code.specs.declared.frame.Place.{Place}
use Rattle.frame_code.specs.declared.frame.Moving.{Moving}
use Rattle.frame_code.specs.declared.frame.Moving.TheVariants as moving

-- Places

abbrev pub behind_of : Behind → model.Behind
behind_of b = record { results = b.results.now; rest = ops_of b.rest.now; blocks = blocks_of b.blocks.now }

abbrev pub looping_of : Looping → model.Looping
looping_of l = record { before = blocks_of l.before.now; after = blocks_of l.after.now }

abbrev pub frame_of : Frame → model.Frame
frame_of (frame.Once b) = model.Once (behind_of b)
frame_of (frame.Body c body i b) = model.Body (counting_of c (blocks_of body.now)) i (behind_of b)
frame_of (frame.Before l b) = model.Before (looping_of l) (behind_of b)
frame_of (frame.After l b) = model.After (looping_of l) (behind_of b)

abbrev pub frames_of : Place → List model.Frame
frames_of p = map frame_of p.frames.items

-- the place with these values
abbrev pub place_of : Place → Env → model.Place
place_of p env = record { spot = record { ops = ops_of p.ops.now; blocks = blocks_of p.blocks.now; env = env }; frames = frames_of p }

-- a block as a target of a jump
abbrev pub target_of : Block → codes.Target
target_of b = record { args = (out-Block b).args; ops = ops_of (out-Block b).ops }

-- Steps without the memory: those over states of which there is only one

abbrev pub Move : Type 0
Move = model.Step model.Place (Unit {0})

-- to these operations, with values under these numbers
abbrev pub goes_to : List ℕ → List values.Value → Env → Ops → Blocks → List model.Frame → Move
goes_to ids xs env ops blocks frames =
    model.stepping (present (bind ids xs env)) tt (λ inner.
    model.Goes (record { spot = record { ops = ops; blocks = blocks; env = inner }; frames = frames }) tt)

-- a counting loop at its test, with the first block of its body
abbrev pub turns_into : codes.Target → model.Counting → ℕ → List values.Value → model.Behind → Env → List model.Frame → Move
turns_into t c i xs b env frames =
    model.stepping (present (bind t.args (values.Integer i ∷ xs) env)) tt (λ inner. model.tested (model.has_round c i) t c i xs b inner frames tt)

-- a memory that refuses every question
abbrev pub nothing_asked : Question → Unit {0} → Reply (Unit {0})
nothing_asked q s = Refuses Outside

-- what an operation with regions comes to, by its form, operands and regions, with what waits behind it
abbrev pub moves : forms.Form → List values.Value → Regions → model.Behind → Env → List model.Frame → Move
moves form xs regions b env frames = model.acts nothing_asked form [] xs [] regions b env frames tt

-- whether an operation of this form has regions or ends one
abbrev pub has_regions : forms.Form → Bool
has_regions forms.If = true
has_regions (forms.For w) = true
has_regions forms.While = true
has_regions (forms.Switch w cases) = true
has_regions forms.Execute = true
has_regions forms.Yield = true
has_regions forms.Condition = true
has_regions _ = false

-- What a place of the code has come to, against a step of the definition. Where the run stops, nothing more is said of the place.

-- the values are those of an environment, and the step goes to the place with it
pub record Went (p : Place) (step : Move) : Type 0 where
  pub env : Env
  pub agrees : Agrees p.table env
  pub is : step ≡ model.Goes (place_of p env) tt

abbrev pub Moved : Moving → Place → Move → Type 0
Moved moving.Went p step = Went p step
Moved moving.Undefined p step = step ≡ model.Stops Undefined tt
Moved moving.Outside p step = step ≡ model.Stops Outside tt

-- the same for the forms with regions. For another one the place is as it was.
abbrev pub MovedIf : Option Moving → Place → Place → forms.Form → Move → Type 0
MovedIf (Some m) old new form step = (has_regions form ≡ true) × Moved m new step
MovedIf None old new form step = (has_regions form ≡ false) × (new ≡ old)
