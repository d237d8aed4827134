-- What is found from infos is what the definitions say of each table of patterns with these infos.
use Rattle.std.proofs.Common.{◌≡◌, ℕ, zero, suc, ◌+◌, Bool, true, false, List, [], ◌∷◌, length, map, get_or, Option, Some, None, refl, sym, ◌∙◌, ap, arith}
use Rattle.std.specs.Prelude.{filter, cond, if◌then◌else◌}
use Rattle.std.specs.Str.{bytes_eq}
use Rattle.std.proofs.Math.Path.{fun_ext}
use Rattle.conversion_model.specs.Rows.{Pattern}
use Rattle.conversion_model.specs.Targets.{Target, may_be_legal}
use Rattle.conversion_model.specs.Chosen.{Ranked, depth, depth_within, goes_before, has_root, in_order, least, order, pattern_depth, put_in, ranked, shallower}
use Rattle.legal_graph.specs.Depths.{DepthOf, depth_in, least_of, own_depth}
use Rattle.legal_graph.specs.Graphs.{info_of}
use Rattle.legal_graph.specs.Orders.{is_before, no_rank, order_from, place_in, rank_in, rank_of}
use Rattle.legal_graph.specs.declared.infos.PatternInfo.{PatternInfo}
use Rattle.legal_graph.specs.declared.ranks.Rank.{Rank}

-- Depths

one_root : (t : Bool) (f : Pattern → Option ℕ) (p : Pattern) (ps : List Pattern)
    → least (map f (cond t (p ∷ ps) ps)) ≡ (if t then shallower (f p) (least (map f ps)) else least (map f ps))
one_root true f p ps = refl
one_root false f p ps = refl

least_same : (D : DepthOf) (table : List Pattern) (name : List ℕ)
    → least (map (pattern_depth D) (filter (has_root name) table)) ≡ least_of D (map info_of table) name
least_same D [] name = refl
least_same D (p ∷ ps) name =
    one_root (has_root name p) (pattern_depth D) p (filter (has_root name) ps)
    ∙ ap (λ d. if bytes_eq p.root name then shallower (pattern_depth D p) d else d) (least_same D ps name)

depth_same : (target : Target) (legal : List ℕ → Bool) (table : List Pattern) → ((name : List ℕ) → legal name ≡ may_be_legal target name)
    → (room : ℕ) (name : List ℕ) → depth_within target table room name ≡ depth_in legal (map info_of table) room name
depth_same target legal table h zero name = refl
depth_same target legal table h (suc room) name =
    let same : depth_within target table room ≡ depth_in legal (map info_of table) room = fun_ext (depth_same target legal table h room) in
    ap (λ t. if t then Some 0 else least (map (pattern_depth (depth_within target table room)) (filter (has_root name) table))) (sym (h name))
    ∙ ap (λ d. if legal name then Some 0 else d)
    (ap (λ (D : DepthOf). least (map (pattern_depth D) (filter (has_root name) table))) same ∙ least_same (depth_in legal (map info_of table) room) table name)

length_infos : (table : List Pattern) → length (map info_of table) ≡ length table
length_infos [] = refl
length_infos (p ∷ ps) = ap suc (length_infos ps)

pub depth_is : (target : Target) (legal : List ℕ → Bool) (table : List Pattern) → ((name : List ℕ) → legal name ≡ may_be_legal target name)
    → (name : List ℕ) → depth_in legal (map info_of table) (length (map info_of table) + 1) name ≡ depth target table name
depth_is target legal table h name =
    ap (λ n. depth_in legal (map info_of table) (n + 1) name) (length_infos table) ∙ sym (depth_same target legal table h (length table + 1) name)

-- Orders

-- the rank of a pattern with its place and depth
abbrev rank_here : Ranked → Rank
rank_here r = record { depth = r.depth; benefit = r.pattern.benefit }

abbrev place_of : Ranked → ℕ
place_of r = r.place

-- at the place of each pattern its rank is found
abbrev AllFit : (ℕ → Rank) → List Ranked → Type 0
AllFit rank [] = Unit {0}
AllFit rank (r ∷ rs) = (rank r.place ≡ rank_here r) × AllFit rank rs

put_case : (t : Bool) (p q : Ranked) (qs more : List Ranked)
    → map place_of (if t then q ∷ more else p ∷ q ∷ qs) ≡ (if t then q.place ∷ map place_of more else p.place ∷ q.place ∷ map place_of qs)
put_case true p q qs more = refl
put_case false p q qs more = refl

put_same : (rank : ℕ → Rank) (p : Ranked) (rs : List Ranked) → rank p.place ≡ rank_here p → AllFit rank rs
    → map place_of (put_in p rs) ≡ place_in rank p.place (map place_of rs)
put_same rank p [] h all = refl
put_same rank p (q ∷ qs) h all =
    put_case (goes_before q p) p q qs (put_in p qs)
    ∙ ap (λ t. if t then q.place ∷ map place_of (put_in p qs) else p.place ∷ q.place ∷ map place_of qs) (ap (λ r. is_before r (rank_here p)) (sym all.0) ∙ ap (is_before (rank q.place)) (sym h))
    ∙ ap (λ ps. if is_before (rank q.place) (rank p.place) then q.place ∷ ps else p.place ∷ q.place ∷ map place_of qs) (put_same rank p qs h all.1)

fit_case : (rank : ℕ → Rank) (t : Bool) (p q : Ranked) (qs more : List Ranked) → rank p.place ≡ rank_here p → rank q.place ≡ rank_here q → AllFit rank qs → AllFit rank more
    → AllFit rank (if t then q ∷ more else p ∷ q ∷ qs)
fit_case rank true p q qs more h g all both = (g, both)
fit_case rank false p q qs more h g all both = (h, (g, all))

put_fits : (rank : ℕ → Rank) (p : Ranked) (rs : List Ranked) → rank p.place ≡ rank_here p → AllFit rank rs → AllFit rank (put_in p rs)
put_fits rank p [] h all = (h, tt)
put_fits rank p (q ∷ qs) h all = fit_case rank (goes_before q p) p q qs (put_in p qs) h all.0 all.1 (put_fits rank p qs h all.1)

-- the ranks of patterns from the k-th place on
abbrev RanksFrom : (ℕ → Rank) → DepthOf → ℕ → List Pattern → Type 0
RanksFrom rank D k [] = Unit {0}
RanksFrom rank D k (p ∷ ps) = (rank k ≡ rank_of D (info_of p)) × RanksFrom rank D (k + 1) ps

ranks_from : (rank : ℕ → Rank) (D : DepthOf) (k : ℕ) (ps : List Pattern) → ((j : ℕ) → rank (k + j) ≡ get_or (map (rank_of D) (map info_of ps)) j no_rank) → RanksFrom rank D k ps
ranks_from rank D k [] h = tt
ranks_from rank D k (p ∷ ps) h =
    let here : k ≡ k + 0 = omega arith in
    let on : (j : ℕ) → k + 1 + j ≡ k + suc j = λ j. omega arith in
    (ap rank here ∙ h 0, ranks_from rank D (k + 1) ps (λ j. ap rank (on j) ∙ h (suc j)))

abbrev ranked_one : DepthOf → ℕ → Pattern → Ranked
ranked_one D k p = record { pattern = p; place = k; depth = pattern_depth D p }

root_fits : (rank : ℕ → Rank) (t : Bool) (p : Ranked) (rest : List Ranked) → rank p.place ≡ rank_here p → AllFit rank (in_order rest) → AllFit rank (in_order (if t then p ∷ rest else rest))
root_fits rank true p rest h all = put_fits rank p (in_order rest) h all
root_fits rank false p rest h all = all

order_fits : (rank : ℕ → Rank) (D : DepthOf) (name : List ℕ) (k : ℕ) (ps : List Pattern) → RanksFrom rank D k ps → AllFit rank (in_order (ranked (pattern_depth D) name k ps))
order_fits rank D name k [] h = tt
order_fits rank D name k (p ∷ ps) h =
    root_fits rank (has_root name p) (ranked_one D k p) (ranked (pattern_depth D) name (k + 1) ps) h.0 (order_fits rank D name (k + 1) ps h.1)

root_same : (rank : ℕ → Rank) (t : Bool) (p : Ranked) (rest : List Ranked) → rank p.place ≡ rank_here p → AllFit rank (in_order rest)
    → map place_of (in_order (if t then p ∷ rest else rest)) ≡ (if t then place_in rank p.place (map place_of (in_order rest)) else map place_of (in_order rest))
root_same rank true p rest h all = put_same rank p (in_order rest) h all
root_same rank false p rest h all = refl

order_same : (rank : ℕ → Rank) (D : DepthOf) (name : List ℕ) (k : ℕ) (ps : List Pattern) → RanksFrom rank D k ps
    → map place_of (in_order (ranked (pattern_depth D) name k ps)) ≡ order_from rank name k (map info_of ps)
order_same rank D name k [] h = refl
order_same rank D name k (p ∷ ps) h =
    root_same rank (has_root name p) (ranked_one D k p) (ranked (pattern_depth D) name (k + 1) ps) h.0 (order_fits rank D name (k + 1) ps h.1)
    ∙ ap (λ rest. if bytes_eq p.root name then place_in rank k rest else rest) (order_same rank D name (k + 1) ps h.1)

pub order_is : (D : DepthOf) (target : Target) (table : List Pattern) (ranks : List Rank) → D ≡ depth target table → ranks ≡ map (rank_of D) (map info_of table)
    → (name : List ℕ) → order_from (rank_in ranks) name 0 (map info_of table) ≡ map place_of (order target table name)
order_is D target table ranks d e name =
    let here : (j : ℕ) → 0 + j ≡ j = λ j. omega arith in
    let all : RanksFrom (rank_in ranks) D 0 table = ranks_from (rank_in ranks) D 0 table (λ j. ap (rank_in ranks) (here j) ∙ ap (λ (rs : List Rank). get_or rs j no_rank) e) in
    sym (order_same (rank_in ranks) D name 0 table all) ∙ ap (λ (E : DepthOf). map place_of (in_order (ranked (pattern_depth E) name 0 table))) d

-- For a graph that is found from infos

-- depths of names, where they are the definition's for all tables with these infos
pub all_depths : (target : Target) (legal : List ℕ → Bool) (infos : List PatternInfo) (table : List Pattern) (D : DepthOf)
    → ((name : List ℕ) → legal name ≡ may_be_legal target name) → map info_of table ≡ infos
    → ((name : List ℕ) → D name ≡ depth_in legal infos (length infos + 1) name) → (name : List ℕ) → D name ≡ depth target table name
all_depths target legal infos table D h e is name =
    is name ∙ ap (λ (ps : List PatternInfo). depth_in legal ps (length ps + 1) name) (sym e) ∙ depth_is target legal table h name

pub all_orders : (target : Target) (infos : List PatternInfo) (table : List Pattern) (D : DepthOf) (ranks : List Rank) (orders : List ℕ → List ℕ)
    → ((name : List ℕ) → D name ≡ depth target table name) → map info_of table ≡ infos → ranks ≡ map (rank_of D) infos
    → ((name : List ℕ) → orders name ≡ order_from (rank_in ranks) name 0 infos) → (name : List ℕ) → orders name ≡ map place_of (order target table name)
all_orders target infos table D ranks orders d e r is name =
    is name ∙ ap (λ (ps : List PatternInfo). order_from (rank_in ranks) name 0 ps) (sym e)
    ∙ order_is D target table ranks (fun_ext d) (r ∙ ap (map (rank_of D)) (sym e)) name
