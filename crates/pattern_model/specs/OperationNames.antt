-- The names of the operations that there are, in the order of their table.
use Rattle.std.specs.Prelude.{ℕ, Bool, List, [], ◌∷◌, ◌++◌, codes}
use Rattle.std.specs.List.{list_any}
use Rattle.std.specs.Str.{bytes_eq}

abbrev pub is_among : List (List ℕ) → List ℕ → Bool
is_among names name = list_any (λ n. bytes_eq n name) names

abbrev pub builtin_names : List (List ℕ)
builtin_names = codes "builtin.module" ∷ codes "builtin.unrealized_conversion_cast" ∷ []

abbrev pub func_names : List (List ℕ)
func_names = codes "func.func" ∷ codes "func.call" ∷ codes "func.return" ∷ []

abbrev pub arith_names : List (List ℕ)
arith_names =
    codes "arith.constant"
    ∷ codes "arith.addi" ∷ codes "arith.subi" ∷ codes "arith.muli" ∷ codes "arith.shli"
    ∷ codes "arith.divsi" ∷ codes "arith.divui" ∷ codes "arith.remsi" ∷ codes "arith.remui"
    ∷ codes "arith.ceildivsi" ∷ codes "arith.floordivsi" ∷ codes "arith.ceildivui"
    ∷ codes "arith.andi" ∷ codes "arith.ori" ∷ codes "arith.xori"
    ∷ codes "arith.shrsi" ∷ codes "arith.shrui"
    ∷ codes "arith.maxsi" ∷ codes "arith.maxui" ∷ codes "arith.minsi" ∷ codes "arith.minui"
    ∷ codes "arith.cmpi" ∷ codes "arith.select"
    ∷ codes "arith.extsi" ∷ codes "arith.extui" ∷ codes "arith.trunci"
    ∷ codes "arith.index_cast" ∷ codes "arith.index_castui"
    ∷ []

abbrev pub cf_names : List (List ℕ)
cf_names = codes "cf.br" ∷ codes "cf.cond_br" ∷ []

abbrev pub scf_roots : List (List ℕ)
scf_roots = codes "scf.if" ∷ codes "scf.for" ∷ codes "scf.while" ∷ codes "scf.index_switch" ∷ codes "scf.execute_region" ∷ []

abbrev pub scf_names : List (List ℕ)
scf_names = scf_roots ++ codes "scf.yield" ∷ codes "scf.condition" ∷ []

abbrev pub memref_names : List (List ℕ)
memref_names =
    codes "memref.alloc" ∷ codes "memref.dealloc" ∷ codes "memref.load" ∷ codes "memref.store" ∷ codes "memref.dim" ∷ codes "memref.rank" ∷ codes "memref.cast" ∷ []

abbrev pub llvm_branches : List (List ℕ)
llvm_branches = codes "llvm.br" ∷ codes "llvm.cond_br" ∷ []

abbrev pub llvm_names : List (List ℕ)
llvm_names =
    codes "llvm.func" ∷ codes "llvm.call" ∷ codes "llvm.return"
    ∷ codes "llvm.br" ∷ codes "llvm.cond_br"
    ∷ codes "llvm.mlir.constant" ∷ codes "llvm.mlir.undef"
    ∷ codes "llvm.add" ∷ codes "llvm.sub" ∷ codes "llvm.mul" ∷ codes "llvm.shl"
    ∷ codes "llvm.sdiv" ∷ codes "llvm.udiv" ∷ codes "llvm.srem" ∷ codes "llvm.urem"
    ∷ codes "llvm.and" ∷ codes "llvm.or" ∷ codes "llvm.xor" ∷ codes "llvm.ashr" ∷ codes "llvm.lshr"
    ∷ codes "llvm.icmp" ∷ codes "llvm.select"
    ∷ codes "llvm.sext" ∷ codes "llvm.zext" ∷ codes "llvm.trunc"
    ∷ codes "llvm.extractvalue" ∷ codes "llvm.insertvalue" ∷ codes "llvm.getelementptr"
    ∷ codes "llvm.load" ∷ codes "llvm.store"
    ∷ []

-- all operations that there are: any other name is unregistered
abbrev pub is_known : List ℕ → Bool
is_known = is_among (builtin_names ++ func_names ++ arith_names ++ cf_names ++ scf_names ++ memref_names ++ llvm_names)
