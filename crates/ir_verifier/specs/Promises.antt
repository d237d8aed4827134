-- What the laws of the verifier promise.
use Rattle.std.specs.Prelude.{◌≡◌, ◌↔◌, ℕ}
use Rattle.plain_tree.specs.Ops.{PlainModule}
use Rattle.rule_model.specs.Formed.{Formed}
use Rattle.rule_model.specs.Rules.{Verified}
use Rattle.ir_verifier.specs.declared.broken.BrokenRule.{BrokenRule}
use Rattle.ir_verifier.specs.Telling.{Fails, Passes}

-- a formed module passes exactly where it is verified
abbrev pub PassesVerified : Type 0
PassesVerified = (m : PlainModule) → Formed m → Passes m ↔ Verified m

-- no module passes and fails, and none fails in two ways
abbrev pub OneVerdict : Type 0
OneVerdict = (m : PlainModule) (b c : BrokenRule) → Fails m b → (Passes m → ⊥) × (Fails m c → b ≡ c)
