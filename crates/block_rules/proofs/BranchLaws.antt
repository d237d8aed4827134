-- What is chosen for a branch, written down.
use Rattle.std.proofs.Common.{◌≡◌, ℕ, List, [], ◌∷◌, ◌++◌, Option, Some, refl, ap, ◌∙◌, map, inl, inr, subst, sym}
use Rattle.std.specs.Prelude.{codes}
use Rattle.std.specs.Option.{option_map}
use Rattle.plain_tree.specs.Types.{PlainType}
use Rattle.plain_tree.specs.Attrs.{Entries, PlainAttr, entry}
use Rattle.conversion_model.specs.Templates.{labels_at, Template, written}
use Rattle.conversion_model.specs.Chosen.{chosen}
use Rattle.pattern_model.specs.CfRows.{cf_set}
use Rattle.fitting_rows.proofs.FitShapes.{becomes_own, Width, width_of}
use Rattle.block_rules.specs.Branches.{branch, branch_shape, cf_target, converted_operands, fronts, IsConverted}
use Rattle.block_rules.specs.Promises.{BrConverted, CondBrConverted, ValueTypes}
use Rattle.block_rules.proofs.BranchChoice.{BecomeOwn, cf_br_chosen, cf_on_chosen, llvm_br_chosen, llvm_on_chosen, turned}
use Rattle.block_rules.proofs.BranchTemplates.{branch_written, kept_successors}

all_become_own : (bits : ℕ) (w : Width bits) (ts : List PlainType) → ValueTypes ts → BecomeOwn bits ts
all_become_own bits w [] all = tt
all_become_own bits w (t ∷ ts) all = ((becomes_own bits t w (record { value = all.0.0; formed = all.0.1 })).own, all_become_own bits w ts all.1)

turned_written : (bits : ℕ) (T : ℕ → PlainType) (new : ℕ → ℕ) (os ls : List ℕ) (name : List ℕ) (props : Entries) (succ : List ℕ) (x : Option Template) → labels_at ls (kept_successors succ) ≡ ls → x ≡ Some (turned bits (map T os) name props succ)
    → option_map (λ t. written new [] os ls t []) x ≡ Some (fronts bits T new 0 os ++ branch name props (converted_operands bits T new 0 os) ls ∷ [])
turned_written bits T new os ls name props succ x labels e = ap (option_map (λ t. written new [] os ls t [])) e ∙ ap Some (branch_written bits T new os ls name props succ labels)

module _ (bits : ℕ) (T : ℕ → PlainType) (new : ℕ → ℕ) (props attrs : Entries) (os : List ℕ) where
  abbrev BrIs : ℕ → List ℕ → Type 0
  BrIs l name =
      option_map (λ t. written new [] os (l ∷ []) t []) (chosen bits cf_target cf_set [] (branch_shape name (map T os) props attrs 1)) ≡ Some (fronts bits T new 0 os ++ branch (codes "llvm.br") [] (converted_operands bits T new 0 os) (l ∷ []) ∷ [])

  br_by : (l : ℕ) (name : List ℕ) → BecomeOwn bits (map T os) → IsConverted (codes "cf.br") (codes "llvm.br") name (map T os) → BrIs l name
  br_by l name own (inl e) =
      subst (BrIs l) (sym e)
      (turned_written bits T new os (l ∷ []) (codes "llvm.br") [] (0 ∷ []) (chosen bits cf_target cf_set [] (branch_shape (codes "cf.br") (map T os) props attrs 1)) refl (cf_br_chosen bits (map T os) props attrs own))
  br_by l name own (inr e) =
      subst (BrIs l) (sym e.0)
      (turned_written bits T new os (l ∷ []) (codes "llvm.br") [] (0 ∷ []) (chosen bits cf_target cf_set [] (branch_shape (codes "llvm.br") (map T os) props attrs 1)) refl (llvm_br_chosen bits (map T os) props attrs e.1 own))

  abbrev CondIs : PlainAttr → ℕ → ℕ → List ℕ → Type 0
  CondIs sizes l m name =
      option_map (λ t. written new [] os (l ∷ m ∷ []) t []) (chosen bits cf_target cf_set [] (branch_shape name (map T os) props attrs 2))
      ≡ Some (fronts bits T new 0 os ++ branch (codes "llvm.cond_br") ((codes "operandSegmentSizes", sizes) ∷ []) (converted_operands bits T new 0 os) (l ∷ m ∷ []) ∷ [])

  cond_by : (sizes : PlainAttr) (l m : ℕ) (name : List ℕ) → BecomeOwn bits (map T os) → IsConverted (codes "cf.cond_br") (codes "llvm.cond_br") name (map T os) → entry (codes "operandSegmentSizes") props ≡ Some sizes → CondIs sizes l m name
  cond_by sizes l m name own (inl e) f =
      subst (CondIs sizes l m) (sym e)
      (turned_written bits T new os (l ∷ m ∷ []) (codes "llvm.cond_br") ((codes "operandSegmentSizes", sizes) ∷ []) (0 ∷ 1 ∷ []) (chosen bits cf_target cf_set [] (branch_shape (codes "cf.cond_br") (map T os) props attrs 2)) refl
      (cf_on_chosen bits (map T os) props attrs sizes f own))
  cond_by sizes l m name own (inr e) f =
      subst (CondIs sizes l m) (sym e.0)
      (turned_written bits T new os (l ∷ m ∷ []) (codes "llvm.cond_br") ((codes "operandSegmentSizes", sizes) ∷ []) (0 ∷ 1 ∷ []) (chosen bits cf_target cf_set [] (branch_shape (codes "llvm.cond_br") (map T os) props attrs 2)) refl
      (llvm_on_chosen bits (map T os) props attrs sizes f e.1 own))

pub br_converted : BrConverted
br_converted bits width T new name props attrs os l types is = br_by bits T new props attrs os l name (all_become_own bits (width_of bits width) (map T os) types) is

pub cond_br_converted : CondBrConverted
cond_br_converted bits width T new name props attrs sizes os l m types is e = cond_by bits T new props attrs os sizes l m name (all_become_own bits (width_of bits width) (map T os) types) is e
