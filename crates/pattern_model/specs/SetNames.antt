-- The table of all patterns by their names: each line a root and the names that the pattern may make, set by set.
use Rattle.std.specs.Prelude.{ℕ, List, [], ◌∷◌, codes}

abbrev pub scf_names : List (List (List ℕ))
scf_names =
    (codes "scf.if" ∷ codes "cf.br" ∷ codes "cf.cond_br" ∷ [])
    ∷ (codes "scf.for" ∷ codes "arith.cmpi" ∷ codes "arith.addi" ∷ codes "cf.br" ∷ codes "cf.cond_br" ∷ [])
    ∷ (codes "scf.while" ∷ codes "cf.br" ∷ codes "cf.cond_br" ∷ [])
    ∷ (codes "scf.index_switch" ∷ codes "arith.constant" ∷ codes "arith.cmpi" ∷ codes "cf.br" ∷ codes "cf.cond_br" ∷ [])
    ∷ (codes "scf.execute_region" ∷ codes "cf.br" ∷ [])
    ∷ []

abbrev pub expand_names : List (List (List ℕ))
expand_names =
    (codes "arith.ceildivsi" ∷ codes "arith.divsi" ∷ codes "arith.muli" ∷ codes "arith.cmpi" ∷ codes "arith.constant" ∷ codes "arith.andi" ∷ codes "arith.addi" ∷ codes "arith.select" ∷ [])
    ∷ (codes "arith.ceildivui" ∷ codes "arith.constant" ∷ codes "arith.cmpi" ∷ codes "arith.subi" ∷ codes "arith.divui" ∷ codes "arith.addi" ∷ codes "arith.select" ∷ [])
    ∷ (codes "arith.floordivsi" ∷ codes "arith.divsi" ∷ codes "arith.muli" ∷ codes "arith.cmpi" ∷ codes "arith.constant" ∷ codes "arith.andi" ∷ codes "arith.subi" ∷ codes "arith.select" ∷ [])
    ∷ (codes "arith.maxsi" ∷ codes "arith.cmpi" ∷ codes "arith.select" ∷ [])
    ∷ (codes "arith.minsi" ∷ codes "arith.cmpi" ∷ codes "arith.select" ∷ [])
    ∷ []

abbrev pub arith_names : List (List (List ℕ))
arith_names =
    (codes "arith.constant" ∷ codes "llvm.mlir.constant" ∷ [])
    ∷ (codes "arith.addi" ∷ codes "llvm.add" ∷ [])
    ∷ (codes "arith.subi" ∷ codes "llvm.sub" ∷ [])
    ∷ (codes "arith.muli" ∷ codes "llvm.mul" ∷ [])
    ∷ (codes "arith.divsi" ∷ codes "llvm.sdiv" ∷ [])
    ∷ (codes "arith.divui" ∷ codes "llvm.udiv" ∷ [])
    ∷ (codes "arith.remsi" ∷ codes "llvm.srem" ∷ [])
    ∷ (codes "arith.remui" ∷ codes "llvm.urem" ∷ [])
    ∷ (codes "arith.andi" ∷ codes "llvm.and" ∷ [])
    ∷ (codes "arith.ori" ∷ codes "llvm.or" ∷ [])
    ∷ (codes "arith.xori" ∷ codes "llvm.xor" ∷ [])
    ∷ (codes "arith.shli" ∷ codes "llvm.shl" ∷ [])
    ∷ (codes "arith.shrsi" ∷ codes "llvm.ashr" ∷ [])
    ∷ (codes "arith.shrui" ∷ codes "llvm.lshr" ∷ [])
    ∷ (codes "arith.cmpi" ∷ codes "llvm.icmp" ∷ [])
    ∷ (codes "arith.select" ∷ codes "llvm.select" ∷ [])
    ∷ (codes "arith.extsi" ∷ codes "llvm.sext" ∷ [])
    ∷ (codes "arith.extui" ∷ codes "llvm.zext" ∷ [])
    ∷ (codes "arith.trunci" ∷ codes "llvm.trunc" ∷ [])
    ∷ (codes "arith.index_cast" ∷ codes "llvm.sext" ∷ codes "llvm.trunc" ∷ [])
    ∷ (codes "arith.index_castui" ∷ codes "llvm.zext" ∷ codes "llvm.trunc" ∷ [])
    ∷ (codes "arith.maxsi" ∷ codes "llvm.icmp" ∷ codes "llvm.select" ∷ [])
    ∷ (codes "arith.maxui" ∷ codes "llvm.icmp" ∷ codes "llvm.select" ∷ [])
    ∷ (codes "arith.minsi" ∷ codes "llvm.icmp" ∷ codes "llvm.select" ∷ [])
    ∷ (codes "arith.minui" ∷ codes "llvm.icmp" ∷ codes "llvm.select" ∷ [])
    ∷ []

abbrev pub cf_names : List (List (List ℕ))
cf_names =
    (codes "cf.br" ∷ codes "llvm.br" ∷ [])
    ∷ (codes "cf.cond_br" ∷ codes "llvm.cond_br" ∷ [])
    ∷ (codes "llvm.br" ∷ codes "llvm.br" ∷ [])
    ∷ (codes "llvm.cond_br" ∷ codes "llvm.cond_br" ∷ [])
    ∷ []

abbrev pub memref_names : List (List (List ℕ))
memref_names =
    (codes "memref.alloc" ∷ codes "llvm.mlir.constant" ∷ codes "llvm.mul" ∷ codes "llvm.zext" ∷ codes "llvm.call" ∷ codes "llvm.mlir.undef" ∷ codes "llvm.insertvalue" ∷ [])
    ∷ (codes "memref.alloc" ∷ codes "llvm.mlir.constant" ∷ codes "llvm.mul" ∷ codes "llvm.add" ∷ codes "llvm.udiv" ∷ codes "llvm.zext" ∷ codes "llvm.call" ∷ codes "llvm.mlir.undef" ∷ codes "llvm.insertvalue" ∷ [])
    ∷ (codes "memref.dealloc" ∷ codes "llvm.extractvalue" ∷ codes "llvm.call" ∷ [])
    ∷ (codes "memref.load" ∷ codes "llvm.extractvalue" ∷ codes "llvm.mul" ∷ codes "llvm.add" ∷ codes "llvm.sext" ∷ codes "llvm.getelementptr" ∷ codes "llvm.load" ∷ [])
    ∷ (codes "memref.store" ∷ codes "llvm.extractvalue" ∷ codes "llvm.mul" ∷ codes "llvm.add" ∷ codes "llvm.sext" ∷ codes "llvm.getelementptr" ∷ codes "llvm.store" ∷ [])
    ∷ (codes "memref.dim" ∷ codes "llvm.extractvalue" ∷ codes "llvm.mlir.constant" ∷ codes "llvm.icmp" ∷ codes "llvm.select" ∷ [])
    ∷ (codes "memref.rank" ∷ codes "llvm.mlir.constant" ∷ [])
    ∷ (codes "memref.cast" ∷ [])
    ∷ []

abbrev pub func_names : List (List (List ℕ))
func_names =
    (codes "func.func" ∷ codes "llvm.func" ∷ codes "llvm.mlir.undef" ∷ codes "llvm.insertvalue" ∷ [])
    ∷ (codes "func.call" ∷ codes "llvm.extractvalue" ∷ codes "llvm.call" ∷ [])
    ∷ (codes "func.return" ∷ codes "llvm.mlir.undef" ∷ codes "llvm.insertvalue" ∷ codes "llvm.return" ∷ [])
    ∷ (codes "builtin.unrealized_conversion_cast" ∷ [])
    ∷ []
