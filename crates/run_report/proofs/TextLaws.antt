-- The text of an outcome is that of the result that it shows.
use Rattle.std.proofs.Common.{◌≡◌, ℕ, ℤ, List, [], ◌++◌, map, ap, ap₂, ◌∙◌, subst}
use Rattle.std.specs.Prelude.{◌*◌}
use Rattle.tree_model.specs.declared.op_tree.ModuleTree.{ModuleTree}
use Rattle.form_model.specs.Decoding.{functions_of}
use Rattle.meaning_model.specs.Meaning.{Result, means_s, means_l}
use Rattle.machine_code.specs.Machines.{call_seen}
use Rattle.outcome_code.specs.declared.kinds.Outcome.{Outcome}
use Rattle.outcome_code.specs.Outcomes.{Shows, end_of}
use Rattle.run_lines.specs.Lines.{outcome_text, result_text}
use Rattle.run_report.specs.Reports.{Request, cells, llvm_text, structured_text}

result_shown : {S : Type 0} (lead text : List ℕ) (m : ModuleTree) (bits : ℕ) (name : List ℕ) (o : Outcome) (r : Result S) → Shows o r
    → text ≡ lead ++ outcome_text (functions_of bits m) name (end_of o.end) (map call_seen o.trace) → text ≡ lead ++ result_text (functions_of bits m) name r
result_shown lead text m bits name o r shown is =
    is ∙ ap₂ (λ e t. lead ++ outcome_text (functions_of bits m) name e t) shown.end shown.trace

pub structured_shown : (lead text : List ℕ) (m : ModuleTree) (q : Request) (o : Outcome) (name : List ℕ) (answers : List ℤ) (fuel : ℕ) → name ≡ q.name → answers ≡ [] → fuel ≡ q.fuel
    → Shows o (means_s m name q.args answers fuel q.bits) → text ≡ lead ++ outcome_text (functions_of q.bits m) q.name (end_of o.end) (map call_seen o.trace) → text ≡ lead ++ structured_text q m
unfolding structured_text
structured_shown lead text m q o name answers fuel one none same shown is =
    result_shown lead text m q.bits q.name o (means_s m q.name q.args [] q.fuel q.bits)
    (subst (λ n. Shows o (means_s m n q.args [] q.fuel q.bits)) one (subst (λ zs. Shows o (means_s m name q.args zs q.fuel q.bits)) none (subst (λ k. Shows o (means_s m name q.args answers k q.bits)) same shown))) is

pub llvm_shown : (lead text : List ℕ) (m : ModuleTree) (q : Request) (o : Outcome) (bits : ℕ) (name : List ℕ) (answers : List ℤ) (memory fuel : ℕ) → bits ≡ 64 → name ≡ q.name → answers ≡ [] → memory ≡ cells → fuel ≡ 100 * q.fuel
    → Shows o (means_l m name q.args answers memory fuel) → text ≡ lead ++ outcome_text (functions_of bits m) q.name (end_of o.end) (map call_seen o.trace) → text ≡ lead ++ llvm_text q m
unfolding llvm_text
llvm_shown lead text m q o bits name answers memory fuel full one none size same shown is =
    result_shown lead text m 64 q.name o (means_l m q.name q.args [] cells (100 * q.fuel))
    (subst (λ n. Shows o (means_l m n q.args [] cells (100 * q.fuel))) one
    (subst (λ zs. Shows o (means_l m name q.args zs cells (100 * q.fuel))) none
    (subst (λ n. Shows o (means_l m name q.args answers n (100 * q.fuel))) size
    (subst (λ k. Shows o (means_l m name q.args answers memory k)) same shown))))
    (is ∙ ap (λ b. lead ++ outcome_text (functions_of b m) q.name (end_of o.end) (map call_seen o.trace)) full)
