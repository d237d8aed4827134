use Rattle.std.proofs.Common.{◌∙◌, ◌∷◌, []}
use Rattle.std.specs.Prelude.{pos, codes}
use Rattle.plain_tree.specs.Types.{Int}
use Rattle.conversion_model.specs.declared.templates.Source.TheVariants.{Operand}
use Rattle.conversion_model.specs.Types.{number_type}
use Rattle.pattern_model.specs.Drafts.{predicate, value}
use Rattle.pattern_model.specs.MemrefRows.{constant}
use Rattle.memref_rows.proofs.sizes.one_choice.Goals as goal

pub returns : goal.returns
returns c = λ next.
    c.in_ok-size.ensures (λ v_size. constant (pos c.args.place) (number_type c.args.bits) λ v_number. value (codes "llvm.icmp") (Operand 1 ∷ v_number ∷ []) (predicate 0) (Int 1) λ v_bit. value (codes "llvm.select") (v_bit ∷ v_size ∷ c.args.other ∷ []) [] (number_type c.args.bits) next)
    ∙ c.in_ok-number.ensures (λ v_number. value (codes "llvm.icmp") (Operand 1 ∷ v_number ∷ []) (predicate 0) (Int 1) λ v_bit. value (codes "llvm.select") (v_bit ∷ c.in_ok-size.size ∷ c.args.other ∷ []) [] (number_type c.args.bits) next)
    ∙ c.in_ok-bit.ensures (λ v_bit. value (codes "llvm.select") (v_bit ∷ c.in_ok-size.size ∷ c.args.other ∷ []) [] (number_type c.args.bits) next)
    ∙ c.in_ok-made.ensures next
