-- Numbers of statements, one after the other.
use Rattle.std.proofs.Common.{◌≡◌, ◌≢◌, ◌<◌, ◌≤◌, ◌+◌, ◌-◌, ℕ, true, false, List, [], ◌∷◌, ◌++◌, length, get_or, take, drop, Some, None, refl, sym, ap, ◌∙◌, arith, append_assoc}
use Rattle.std.specs.Prelude.{◌==◌}
use Rattle.std.proofs.lemmas.List.{append-nil, drop_all, drop_more, nil_from_length, take-append-drop, take_all, take_more}
use Rattle.design_model.specs.declared.identifier.StmtId.{StmtId}
use Rattle.text_pieces.specs.Chunks.{Numbers, no_numbers, all_ids, ids_at, IsAbsent, AreOnce, first_id, last_id, id_after, id_before}

pub same : (n : ℕ) → (n == n) ≡ true
same n = grind arith

pub differ : (a b : ℕ) → (a ≢ b) → (a == b) ≡ false
differ a b h = grind arith

pub absent_append : (id : StmtId) (xs ys : List StmtId) → IsAbsent id xs → IsAbsent id ys → IsAbsent id (xs ++ ys)
absent_append id [] ys h k = k
absent_append id (x ∷ xs) ys h k = (h.0, absent_append id xs ys h.1 k)

pub absent_more : (id : StmtId) (ids : List StmtId) (i : ℕ) (d : StmtId) → IsAbsent id (take i ids) → i < length ids → (id.0 ≢ (get_or ids i d).0) → IsAbsent id (take (i + 1) ids)
absent_more id ids i d before below apart = rw (take_more ids i d below) (absent_append id (take i ids) (get_or ids i d ∷ []) before (apart, tt))

absent_between : (x id : StmtId) (xs ys : List StmtId) → IsAbsent x (xs ++ id ∷ ys) → x.0 ≢ id.0
absent_between x id [] ys h = h.0
absent_between x id (y ∷ xs) ys h = absent_between x id xs ys h.1

-- of numbers that stand once, one is neither before nor behind its place
pub absent_before : (id : StmtId) (xs ys : List StmtId) → AreOnce (xs ++ id ∷ ys) → IsAbsent id xs
absent_before id [] ys h = tt
absent_before id (x ∷ xs) ys h = (λ e. absent_between x id xs ys h.0 (sym e), absent_before id xs ys h.1)

pub absent_after : (id : StmtId) (xs ys : List StmtId) → AreOnce (xs ++ id ∷ ys) → IsAbsent id ys
absent_after id [] ys h = h.0
absent_after id (x ∷ xs) ys h = absent_after id xs ys h.1

pub all_ids_append : (cs ds : List Numbers) → all_ids (cs ++ ds) ≡ all_ids cs ++ all_ids ds
all_ids_append [] ds = refl
all_ids_append (c ∷ cs) ds = ap (λ (l : List StmtId). c.ids ++ l) (all_ids_append cs ds) ∙ sym (append_assoc c.ids (all_ids cs) (all_ids ds))

-- the numbers up to a chunk and from it on
pub ids_from : (cs : List Numbers) (k : ℕ) → k < length cs → all_ids (drop k cs) ≡ ids_at cs k ++ all_ids (drop (k + 1) cs)
ids_from cs k below = ap all_ids (drop_more cs k no_numbers below)

pub ids_up_to : (cs : List Numbers) (k : ℕ) → k < length cs → all_ids (take (k + 1) cs) ≡ all_ids (take k cs) ++ ids_at cs k
ids_up_to cs k below =
    ap all_ids (take_more cs k no_numbers below)
    ∙ all_ids_append (take k cs) (get_or cs k no_numbers ∷ [])
    ∙ ap (λ (l : List StmtId). all_ids (take k cs) ++ l) (append-nil (ids_at cs k))

pub cut_at : (cs : List Numbers) (k : ℕ) → all_ids cs ≡ all_ids (take k cs) ++ all_ids (drop k cs)
cut_at cs k = sym (ap all_ids (take-append-drop k cs)) ∙ all_ids_append (take k cs) (drop k cs)

regroup : (a t b d : List StmtId) (id : StmtId) → a ++ ((t ++ id ∷ d) ++ b) ≡ (a ++ t) ++ id ∷ (d ++ b)
regroup a t b d id = ap (λ (l : List StmtId). a ++ l) (append_assoc t (id ∷ d) b) ∙ sym (append_assoc a t (id ∷ (d ++ b)))

-- a number that has a place in a chunk has one among all
pub stands_in_all : (cs : List Numbers) (k : ℕ) (id : StmtId) (before after : List StmtId) → k < length cs → ids_at cs k ≡ before ++ id ∷ after
    → all_ids cs ≡ (all_ids (take k cs) ++ before) ++ id ∷ (after ++ all_ids (drop (k + 1) cs))
stands_in_all cs k id before after below here =
    let back = all_ids (drop (k + 1) cs) in
    cut_at cs k
    ∙ ap (λ (l : List StmtId). all_ids (take k cs) ++ l) (ids_from cs k below ∙ ap (λ (l : List StmtId). l ++ back) here)
    ∙ regroup (all_ids (take k cs)) before back after id

pub after_is : (id : StmtId) (xs ys : List StmtId) → IsAbsent id xs → id_after id (xs ++ id ∷ ys) ≡ first_id ys
after_is id [] ys h = rw (same id.0) refl
after_is id (x ∷ xs) ys h = rw (differ x.0 id.0 (λ e. h.0 (sym e))) (after_is id xs ys h.1)

pub none_after : (id : StmtId) (xs : List StmtId) → IsAbsent id xs → id_after id xs ≡ None
none_after id [] h = refl
none_after id (x ∷ xs) h = rw (differ x.0 id.0 (λ e. h.0 (sym e))) (none_after id xs h.1)

pub none_before : (id x : StmtId) (xs : List StmtId) → IsAbsent id xs → id_before id (x ∷ xs) ≡ None
none_before id x [] h = refl
none_before id x (y ∷ xs) h = rw (differ y.0 id.0 (λ e. h.0 (sym e))) (none_before id y xs h.1)

pub absent_none_before : (id : StmtId) (xs : List StmtId) → IsAbsent id xs → id_before id xs ≡ None
absent_none_before id [] h = refl
absent_none_before id (x ∷ xs) h = none_before id x xs h.1

pub before_is : (id : StmtId) (xs ys : List StmtId) → IsAbsent id xs → IsAbsent id ys → id_before id (xs ++ id ∷ ys) ≡ last_id xs
before_is id [] ys h k = none_before id id ys k
before_is id (x ∷ []) ys h k = rw (same id.0) refl
before_is id (x ∷ y ∷ xs) ys h k = rw (differ y.0 id.0 (λ e. h.1.0 (sym e))) (before_is id (y ∷ xs) ys h.1 k)

pub last_push : (xs : List StmtId) (x : StmtId) → last_id (xs ++ x ∷ []) ≡ Some x
last_push [] x = refl
last_push (y ∷ []) x = refl
last_push (y ∷ z ∷ xs) x = last_push (z ∷ xs) x

-- what a place of some numbers has, as the first of those from it on and the last of those up to it
pub first_at : (ids : List StmtId) (i : ℕ) (d : StmtId) (more : List StmtId) → i < length ids → first_id (drop i ids ++ more) ≡ Some (get_or ids i d)
first_at ids i d more below = ap (λ (l : List StmtId). first_id (l ++ more)) (drop_more ids i d below)

pub first_past : (ids : List StmtId) (i : ℕ) (more : List StmtId) → length ids ≤ i → first_id (drop i ids ++ more) ≡ first_id more
first_past ids i more past = ap (λ (l : List StmtId). first_id (l ++ more)) (drop_all i ids past)

pub last_at : (more ids : List StmtId) (i : ℕ) (d : StmtId) → i < length ids → last_id (more ++ take (i + 1) ids) ≡ Some (get_or ids i d)
last_at more ids i d below =
    let x = get_or ids i d in
    ap (λ (l : List StmtId). last_id (more ++ l)) (take_more ids i d below)
    ∙ ap last_id (sym (append_assoc more (take i ids) (x ∷ [])))
    ∙ last_push (more ++ take i ids) x

-- the first and the last number of chunks, where the chunk at a place has numbers, and where it has none
pub first_found : (cs : List Numbers) (k : ℕ) (ids : List StmtId) (d : StmtId) → k < length cs → ids ≡ ids_at cs k → 0 < length ids → first_id (all_ids (drop k cs)) ≡ Some (get_or ids 0 d)
first_found cs k ids d below is some =
    let more = all_ids (drop (k + 1) cs) in
    ap first_id (ids_from cs k below) ∙ ap (λ (l : List StmtId). first_id (l ++ more)) (sym is) ∙ first_at ids 0 d more some

pub first_none : (cs : List Numbers) (k : ℕ) (ids : List StmtId) → k < length cs → ids ≡ ids_at cs k → length ids ≤ 0 → first_id (all_ids (drop k cs)) ≡ first_id (all_ids (drop (k + 1) cs))
first_none cs k ids below is none =
    let more = all_ids (drop (k + 1) cs) in
    ap first_id (ids_from cs k below) ∙ ap (λ (l : List StmtId). first_id (l ++ more)) (sym is) ∙ first_past ids 0 more none

pub last_found : (cs : List Numbers) (k : ℕ) (ids : List StmtId) (d : StmtId) → k < length cs → ids ≡ ids_at cs k → 0 < length ids → last_id (all_ids (take (k + 1) cs)) ≡ Some (get_or ids (length ids - 1) d)
last_found cs k ids d below is some =
    let front = all_ids (take k cs) in
    let i = length ids - 1 in
    let whole : take (i + 1) ids ≡ ids = take_all (i + 1) ids (omega (arith, some)) in
    ap last_id (ids_up_to cs k below) ∙ ap (λ (l : List StmtId). last_id (front ++ l)) (sym is) ∙ ap (λ (l : List StmtId). last_id (front ++ l)) (sym whole)
    ∙ last_at front ids i d (omega (arith, some))

pub last_none : (cs : List Numbers) (k : ℕ) (ids : List StmtId) → k < length cs → ids ≡ ids_at cs k → length ids ≤ 0 → last_id (all_ids (take (k + 1) cs)) ≡ last_id (all_ids (take k cs))
last_none cs k ids below is none =
    let front = all_ids (take k cs) in
    ap last_id (ids_up_to cs k below) ∙ ap (λ (l : List StmtId). last_id (front ++ l)) (sym is ∙ nil_from_length ids (omega (arith, none))) ∙ ap last_id (append-nil front)
