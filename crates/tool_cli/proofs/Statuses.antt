-- The statuses that replies have.
use Rattle.std.proofs.Common.{◌≡◌, ℕ, Bool, true, false, List, Option, Some, None, ◌⊎◌, inl, inr, refl, sym, ◌∙◌, subst, true≢false}
use Rattle.text_kinds.specs.declared.found.Kind.{Kind}
use Rattle.tool_cli.specs.declared.status.Status.{Status}
use Rattle.tool_cli.specs.declared.status.Status.TheVariants.{Ok, Usage, Refused, PassFailed, ReadFault, WriteFault, NoMemory, Limit}
use Rattle.tool_cli.specs.Asking.{IsAsked}
use Rattle.tool_cli.specs.Refusals.{limit_of, told}
use Rattle.tool_cli.specs.Told.{Reply, status_behind}
use Rattle.tool_cli.specs.Replies.{Out, no_words, long_input, no_module, unverified, a_module}
use Rattle.tool_cli.proofs.OneReply.{never_refused}

-- a reply tells of no fault, and words that ask for nothing are told so alone
abbrev pub IsAnswer : List (List ℕ) → Status → Type 0
IsAnswer words Ok = Unit {0}
IsAnswer words Refused = Unit {0}
IsAnswer words Limit = Unit {0}
IsAnswer words Usage = IsAsked words → ⊥
IsAnswer words PassFailed = Unit {0}
IsAnswer words ReadFault = ⊥
IsAnswer words WriteFault = ⊥
IsAnswer words NoMemory = ⊥

told_answers : (words : List (List ℕ)) (place : ℕ) (kind : Kind) (limit : Option (List ℕ)) → IsAnswer words (told place kind limit).status
told_answers words place kind (Some limit) = tt
told_answers words place kind None = tt

behind_answers : (words : List (List ℕ)) (failed : Bool) → IsAnswer words (status_behind failed)
behind_answers words true = tt
behind_answers words false = tt

pub answers : (words : List (List ℕ)) (bytes : List ℕ) (r : Reply) → Out words bytes r → IsAnswer words r.status
answers words bytes _ (no_words text refused) = λ asked. never_refused words text asked.0 refused asked.1
answers words bytes _ (long_input _ _ _) = tt
answers words bytes _ (no_module _ place kind _ _ _) = told_answers words place kind (limit_of kind)
answers words bytes _ (unverified _ _ _ _ _ _ _) = tt
answers words bytes _ (a_module _ _ behind _ _ _ _ _) = behind_answers words behind.failed

pub no_fault : (words : List (List ℕ)) (s : Status) → IsAnswer words s → s ≡ ReadFault → ⊥
no_fault words s is e = let P : Status → Type 0 = IsAnswer words in subst P e is

pub no_write_fault : (words : List (List ℕ)) (s : Status) → IsAnswer words s → s ≡ WriteFault → ⊥
no_write_fault words s is e = let P : Status → Type 0 = IsAnswer words in subst P e is

pub none_of : (words : List (List ℕ)) (s : Status) → IsAnswer words s → (s ≡ Usage) ⊎ (IsAsked words → ⊥) → IsAsked words → ⊥
none_of words s is (inl e) = let P : Status → Type 0 = IsAnswer words in subst P e is
none_of words s is (inr none) = none

-- a faulty command line is told so, and not as an answer on a module
pub only_usage : (s : Status) → s ≡ Usage → (s ≡ Ok) ⊎ (s ≡ Refused) ⊎ (s ≡ PassFailed) → ⊥
only_usage s e (inl p) = let both : ◌≡◌ {A = Status} Usage Ok = sym e ∙ p in absurd cc
only_usage s e (inr (inl p)) = let both : ◌≡◌ {A = Status} Usage Refused = sym e ∙ p in absurd cc
only_usage s e (inr (inr p)) = let both : ◌≡◌ {A = Status} Usage PassFailed = sym e ∙ p in absurd cc

-- the status of a value that has this view
pub answers_so : (words : List (List ℕ)) (bytes : List ℕ) (r : Reply) (s : Status) → r.status ≡ s → Out words bytes r → IsAnswer words s
answers_so words bytes r s e out = let P : Status → Type 0 = IsAnswer words in subst P e (answers words bytes r out)
