-- What is told behind a pipeline is a reply.
use Rattle.std.proofs.Common.{◌≡◌, ℕ, ◌≤◌, ◌^◌, List, Option, Ok, Err, sym, ap, ◌∙◌, subst}
use Rattle.std.specs.Prelude.{IfOk, Result, length}
use Rattle.tree_model.specs.declared.op_tree.ModuleTree.{ModuleTree}
use Rattle.plain_tree.specs.Ops.{plain_module}
use Rattle.tree_reading.specs.Reading.{Reads}
use Rattle.tool_words.specs.declared.request.Request.{Request}
use Rattle.tool_words.specs.declared.request.RunWords.{RunWords}
use Rattle.tool_cli.specs.Asking.{AsksFor}
use Rattle.tool_cli.specs.Behind.{lowered_for, Lowers}
use Rattle.tool_cli.specs.Told.{Reply}
use Rattle.tool_cli.specs.Verdicts.{KeepsRules}
use Rattle.tool_cli.specs.Replies.{Out, a_module}

lowers_out : (words : List (List ℕ)) (bytes : List ℕ) (request : Request) (source : ModuleTree) (run : Option RunWords) (reply : Reply) → AsksFor words request
    → length bytes ≤ 2 ^ 24 → Reads bytes request.allowed source → KeepsRules (plain_module source) → request.run ≡ run → Lowers run request source reply → Out words bytes reply
lowers_out words bytes request source run reply asks short reads keeps is l =
    let P : Reply → Type 0 = Out words bytes in
    subst P (ap (λ r. lowered_for r request source l.behind) is ∙ sym l.told) (a_module request source l.behind asks short reads keeps l.is_lowered)

pub all_lower : {E : Type 0} (words : List (List ℕ)) (bytes : List ℕ) (request : Request) (source : ModuleTree) (run : Option RunWords) (result : Result Reply E) → AsksFor words request
    → length bytes ≤ 2 ^ 24 → Reads bytes request.allowed source → KeepsRules (plain_module source) → request.run ≡ run → IfOk result (λ p. Lowers run request source p)
    → IfOk result (λ p. Out words bytes p)
all_lower words bytes request source run (Ok reply) asks short reads keeps is l = lowers_out words bytes request source run reply asks short reads keeps is l
all_lower words bytes request source run (Err e) asks short reads keeps is l = tt
