-- The types of one event more.
use Rattle.std.proofs.Common.{◌≡◌, ◌⊎◌, inl, inr, ℕ, zero, suc, ◌+◌, ◌-◌, ◌≤◌, ◌<◌, List, [], ◌∷◌, ◌++◌, length, map, take, drop, get_or, None, refl, sym, ◌∙◌, ap, subst, arith}
use Rattle.std.proofs.lemmas.List.{append_assoc, map-append, drop_more, length-append}
use Rattle.std.proofs.Math.Seq.{take-length}
use Rattle.text_events.specs.declared.event.Event.{Event}
use Rattle.term_table.specs.declared.node.Node.{Node}
use Rattle.term_table.specs.Terms.{Term, term_at}
use Rattle.term_table.proofs.TableLaws.{zero_is}
use Rattle.text_types.specs.Spelling.{Spelling}
use Rattle.text_types.specs.Items.{Aliases, begins, begun}
use Rattle.text_types.specs.Stack.{Within}
use Rattle.use_kinds.specs.declared.rows.Row.{Row}
use Rattle.use_kinds.specs.Written.{Waiting, argument_type, count_of, function_type, left_at, no_operation, types_at, types_from, types_in}
use Rattle.use_kinds.specs.Flat.{Added, RowsWithin, cut, row_types, rows_types, signatures_of, waits}
use Rattle.use_kinds.proofs.FlatLaws.{next_drop, signature_is}
use Rattle.use_kinds.proofs.PlaceLaws.{number_is}
use Rattle.use_kinds.proofs.RowLaws.{within_append}

-- before the first event
pub none_waits : (nodes : List Node) → waits nodes (record { inputs = 0; results = None }) ≡ no_operation
none_waits nodes = ap (λ t. record { inputs = types_in t; results = None }) (zero_is nodes)

-- a row that goes not beyond the numbers stays as it is where more are put behind
cut_grows : (xs more : List ℕ) (start many : ℕ) → start + many ≤ length xs → take many (drop start (xs ++ more)) ≡ take many (drop start xs)
cut_grows xs more zero zero h = refl
cut_grows [] more zero (suc many) h = absurd (omega (arith, h))
cut_grows (x ∷ xs) more zero (suc many) h = ap (λ ys. x ∷ ys) (cut_grows xs more zero many (omega (arith, h)))
cut_grows [] more (suc start) many h = absurd (omega (arith, h))
cut_grows (x ∷ xs) more (suc start) many h = cut_grows xs more start many (omega (arith, h))

empty_take : (xs : List ℕ) (many : ℕ) → many ≡ 0 → take many xs ≡ []
empty_take xs many h = ap (λ n. take n xs) h

grows_case : (xs more : List ℕ) (start many : ℕ) → (start + many ≤ length xs) ⊎ (many ≡ 0) → take many (drop start (xs ++ more)) ≡ take many (drop start xs)
grows_case xs more start many (inl h) = cut_grows xs more start many h
grows_case xs more start many (inr h) = empty_take (drop start (xs ++ more)) many h ∙ sym (empty_take (drop start xs) many h)

either_end : (start end count : ℕ) → end ≤ count → (start + (end - start) ≤ count) ⊎ (end - start ≡ 0)
either_end start end count h = grind arith

row_grows : (xs more : List ℕ) (row : Row) → row.end ≤ length xs → cut (xs ++ more) row ≡ cut xs row
row_grows xs more row h = grows_case xs more row.start (row.end - row.start) (either_end row.start row.end (length xs) h)

take_whole : (xs : List ℕ) (many : ℕ) → many ≡ length xs → take many xs ≡ xs
take_whole xs many e = ap (λ n. take n xs) e ∙ take-length xs

pub rows_grow : (nodes : List Node) (xs more : List ℕ) (rows : List Row) → RowsWithin (length xs) rows → rows_types nodes (xs ++ more) rows ≡ rows_types nodes xs rows
rows_grow nodes xs more [] w = refl
rows_grow nodes xs more (row ∷ rows) w =
    ap (λ ns. map (term_at nodes) ns ∷ rows_types nodes (xs ++ more) rows) (row_grows xs more row w.0) ∙ ap (λ ts. row_types nodes xs row ∷ ts) (rows_grow nodes xs more rows w.1)

last_cut : (xs more : List ℕ) → take (length (xs ++ more) - length xs) (drop (length xs) (xs ++ more)) ≡ more
last_cut [] more = take_whole more (length more - 0) (omega arith)
last_cut (x ∷ xs) more = let s : length (x ∷ xs ++ more) - length (x ∷ xs) ≡ length (xs ++ more) - length xs = omega arith in ap (λ n. take n (drop (length xs) (xs ++ more))) s ∙ last_cut xs more

rows_more : (count more : ℕ) (rows : List Row) → count ≤ more → RowsWithin count rows → RowsWithin more rows
rows_more count more [] h w = tt
rows_more count more (row ∷ rows) h w = (omega (arith, w.0), rows_more count more rows h w.1)

rows_append : (count : ℕ) (rows more : List Row) → RowsWithin count rows → RowsWithin count more → RowsWithin count (rows ++ more)
rows_append count [] more w v = v
rows_append count (row ∷ rows) more w v = (w.0, rows_append count rows more w.1 v)

-- the rows are within the numbers, also with one more
pub within_step : (nodes : List Node) (old new : List ℕ) (types : List Term) (rows all : List Row) (row : Row) → Added nodes old new types → RowsWithin (length old) rows
    → row.end ≡ length new → all ≡ rows ++ row ∷ [] → RowsWithin (length new) all
within_step nodes old new types rows all row a w end is =
    let longer : length old ≤ length new = let e : length new ≡ length old + length a.more = ap length a.is ∙ length-append old a.more in omega arith in
    subst (RowsWithin (length new)) (sym is) (rows_append (length new) rows (row ∷ []) (rows_more (length old) (length new) rows longer w) (omega (arith, end), tt))

pub items_step : (nodes : List Node) (old new : List ℕ) (types : List Term) → Added nodes old new types → Within (length nodes) old → Within (length nodes) new
items_step nodes old new types a w = subst (Within (length nodes)) (sym a.is) (within_append (length nodes) old a.more w a.stands.within)

-- the types of the rows, with one more
pub rows_step : (nodes : List Node) (old new : List ℕ) (types : List Term) (rows all : List Row) (row : Row) → Added nodes old new types → RowsWithin (length old) rows → row.start ≡ length old
    → row.end ≡ length new → all ≡ rows ++ row ∷ [] → rows_types nodes new all ≡ rows_types nodes old rows ++ types ∷ []
rows_step nodes old new types rows all row a w start end is =
    let last : row_types nodes new row ≡ types =
    ap (λ n. map (term_at nodes) (take (n - row.start) (drop row.start new))) end ∙ ap (λ n. map (term_at nodes) (take (length new - n) (drop n new))) start
    ∙ ap (λ ns. map (term_at nodes) (take (length ns - length old) (drop (length old) ns))) a.is ∙ ap (map (term_at nodes)) (last_cut old a.more) ∙ a.stands.is in
    ap (rows_types nodes new) is ∙ map-append (row_types nodes new) rows (row ∷ []) ∙ ap (λ ts. ts ++ row_types nodes new row ∷ []) (ap (λ ns. rows_types nodes ns rows) a.is ∙ rows_grow nodes old a.more rows w)
    ∙ ap (λ t. rows_types nodes old rows ++ t ∷ []) last

module _ (words : Spelling) (aliases : Aliases) (nodes : List Node) (numbers signatures : List ℕ) (es : List Event) (i : ℕ) (d : Event) (within : i < length es)
    (stands : map (term_at nodes) numbers ≡ begun words aliases es) (behind : signatures ≡ signatures_of es) where
  abbrev here : Event
  here = get_or es i d

  abbrev after : List Event
  after = drop (i + 1) es

  function_is : (function : ℕ) → function ≡ get_or numbers (length es - get_or signatures (i + 1) 0) 0 → term_at nodes function ≡ function_type words aliases after
  function_is function is =
      ap (term_at nodes) is ∙ ap (λ ns. term_at nodes (get_or numbers (length es - get_or ns (i + 1) 0) 0)) behind
      ∙ number_is words aliases nodes numbers es (length es - get_or (signatures_of es) (i + 1) 0) stands ∙ ap (begins words aliases) (signature_is es (i + 1)).1

  argument_is : (argument : ℕ) → argument ≡ get_or numbers (i + 2) 0 → term_at nodes argument ≡ argument_type words aliases after
  argument_is argument is =
      let s : i + 2 ≡ i + 1 + 1 = omega arith in
      ap (term_at nodes) is ∙ number_is words aliases nodes numbers es (i + 2) stands ∙ ap (λ n. begins words aliases (drop n es)) s ∙ ap (begins words aliases) (sym (next_drop es (i + 1)))

  pub types_step : (s t : Waiting) (count function argument : ℕ) (types : List Term) (old new whole : List (List Term))
      → function ≡ get_or numbers (length es - get_or signatures (i + 1) 0) 0 → argument ≡ get_or numbers (i + 2) 0 → count ≡ count_of words after
      → types ≡ types_at s here.place count (term_at nodes function) (term_at nodes argument) → t ≡ left_at s here.place count (term_at nodes function)
      → new ≡ old ++ types ∷ [] → old ++ types_from words aliases s (drop i es) ≡ whole → new ++ types_from words aliases t (drop (i + 1) es) ≡ whole
  types_step s t count function argument types old new whole f a n is left rows so_far =
      let types_here : types ≡ types_at s here.place (count_of words after) (function_type words aliases after) (argument_type words aliases after) =
      is ∙ ap (λ m. types_at s here.place m (term_at nodes function) (term_at nodes argument)) n ∙ ap (λ u. types_at s here.place (count_of words after) u (term_at nodes argument)) (function_is function f)
      ∙ ap (types_at s here.place (count_of words after) (function_type words aliases after)) (argument_is argument a) in
      let left_here : t ≡ left_at s here.place (count_of words after) (function_type words aliases after) =
      left ∙ ap (λ m. left_at s here.place m (term_at nodes function)) n ∙ ap (left_at s here.place (count_of words after)) (function_is function f) in
      ap (λ xs. xs ++ types_from words aliases t after) rows ∙ append_assoc old (types ∷ []) (types_from words aliases t after)
      ∙ ap (λ ts. old ++ ts ∷ types_from words aliases t after) types_here
      ∙ ap (λ w. old ++ types_at s here.place (count_of words after) (function_type words aliases after) (argument_type words aliases after) ∷ types_from words aliases w after) left_here
      ∙ ap (λ xs. old ++ types_from words aliases s xs) (sym (drop_more es i d within)) ∙ so_far

-- before the first event there are no numbers and no rows
pub no_items : (last : ℕ) (items : List ℕ) → items ≡ [] → Within last items
no_items last items e = subst (Within last) (sym e) tt

pub no_rows : (count : ℕ) (rows : List Row) → rows ≡ [] → RowsWithin count rows
no_rows count rows e = subst (RowsWithin count) (sym e) tt

pub types_init : (words : Spelling) (aliases : Aliases) (nodes : List Node) (es : List Event) (items : List ℕ) (rows : List Row) → rows ≡ []
    → rows_types nodes items rows ++ types_from words aliases (waits nodes (record { inputs = 0; results = None })) es ≡ types_from words aliases no_operation es
types_init words aliases nodes es items rows e =
    ap (λ rs. rows_types nodes items rs ++ types_from words aliases (waits nodes (record { inputs = 0; results = None })) es) e ∙ ap (λ s. types_from words aliases s es) (none_waits nodes)
