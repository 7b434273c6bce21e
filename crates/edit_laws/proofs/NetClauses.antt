-- The clauses of nets: each begins with a +, and one that doesn't bar from changing wiring stands before one stop as it does
-- before another.
use Rattle.std.proofs.Common.{◌≡◌, ◌⊎◌, inl, inr, ◌<◌, ℕ, Bool, true, false, ◌||◌, List, [], ◌∷◌, ◌++◌, length, drop, Option, Some, None, arith, refl, sym, ap, subst, ◌∙◌, ⊎_elim, codes}
use Rattle.std.specs.List.{All, list_any}
use Rattle.std.specs.Option.{option_or}
use Rattle.std.proofs.lemmas.Bool.{cases_Bool as cases, or_parts, not-true}
use Rattle.std.proofs.lemmas.List.Elements.{All-head, All-tail}
use Rattle.std.proofs.lemmas.Slice.Eq.{bytes_eq-Decides}
use Rattle.form_meanings.specs.Words.{Rest, is_word, is_quoted, is_plus, is_semicolon, is_stop, is_plain, is_name, first_passes, start}
use Rattle.form_meanings.specs.Meaning.{first_or_end, spell_all}
use Rattle.statement_model.specs.Form.{Form, upto, ◌▸◌, or_else, on, read, spell, Fits}
use Rattle.def_grammar.specs.Clauses.{KeptClause, kept_clause}
use Rattle.def_grammar.specs.Nets.{net_clause, net_listed}
use Rattle.def_grammar.specs.SpecialNets.{SpecialListed, special_clause, special_listed, special_shape}
use Rattle.def_grammar.specs.Wiring.{WiringStatus, routed, fixed, cover, wiring_word, wiring_status, Wiring, wiring, SpecialWiring, special_wiring}
use Rattle.edit_rules.specs.NetEdits.{Role, is_barring, is_one_of, kept_role, net_role, special_role}
use Rattle.edit_laws.proofs.Moves.{Alike, Moves, alike_behind, neither, none_of}
use Rattle.edit_laws.proofs.NetMoves.{MovesAt}
use Rattle.edit_laws.proofs.NetRuns.{AllFit, AllGood}
use Rattle.edit_laws.proofs.WiringMoves.{net_listed_moves, special_listed_moves}

-- clauses of a form, each with what it is to wiring
pub record AreClauses {C : Type 0} (form : Form C) (role : C → Role) : Type 0 where
  pub body : C → List (List ℕ)
  pub plus : (c : C) → spell form c ≡ codes "+" ∷ body c
  pub moves : (c : C) → is_barring (role c) ≡ false → MovesAt form.of c

-- what stands behind the clauses of an entry
abbrev pub end : List (List ℕ)
end = codes ";" ∷ []

module _ {C : Type 0} (form : Form C) (role : C → Role) (are : AreClauses form role) where
  pub clause_leads : (c : C) (ws : List (List ℕ)) → first_passes is_plus (spell form c ++ ws) ≡ true
  clause_leads c ws = ap (λ (us : List (List ℕ)). first_passes is_plus (us ++ ws)) (are.plus c)

  pub clause_words : (c : C) → 0 < length (spell form c)
  clause_words c = let long = ap (λ (us : List (List ℕ)). length us) (are.plus c) in omega (arith, long)

  -- clauses and their ; begin with a stop, whichever they are
  begins_so : (t : List ℕ → Bool) (c : C) (cs : List C) → first_passes t (spell_all (spell form) (c ∷ cs) ++ end) ≡ t (codes "+")
  begins_so t c cs = ap (λ (us : List (List ℕ)). first_passes t ((us ++ spell_all (spell form) cs) ++ end)) (are.plus c)

  ends_so : (t : List ℕ → Bool) (c : C) (cs : List C) → first_or_end t (spell_all (spell form) (c ∷ cs) ++ end) ≡ t (codes "+")
  ends_so t c cs = ap (λ (us : List (List ℕ)). first_or_end t ((us ++ spell_all (spell form) cs) ++ end)) (are.plus c)

  pub alike_ends : (cs ds : List C) → Alike (spell_all (spell form) cs ++ end) (spell_all (spell form) ds ++ end)
  alike_ends [] [] = λ t blind. (refl, refl)
  alike_ends [] (d ∷ ds) = λ t blind. (sym blind ∙ sym (begins_so t d ds), sym blind ∙ sym (ends_so t d ds))
  alike_ends (c ∷ cs) [] = λ t blind. (begins_so t c cs ∙ blind, ends_so t c cs ∙ blind)
  alike_ends (c ∷ cs) (d ∷ ds) = λ t blind. (begins_so t c cs ∙ sym (begins_so t d ds), ends_so t c cs ∙ sym (ends_so t d ds))

  -- no test that a + and a ; fail passes there
  pub stops_before : (t : List ℕ → Bool) → t (codes "+") ≡ false → t (codes ";") ≡ false → (cs : List C) → first_passes t (spell_all (spell form) cs ++ end) ≡ false
  stops_before t plus last [] = last
  stops_before t plus last (c ∷ cs) = begins_so t c cs ∙ plus

  abbrev pub NoneBars : List C → Type 0
  NoneBars cs = list_any (λ c. is_barring (role c)) cs ≡ false

  pub clauses_move : (cs : List C) (ws vs : List (List ℕ)) → NoneBars cs → Alike ws vs → AllFit form.of cs ws → AllFit form.of cs vs
  clauses_move [] ws vs free same fits = tt
  clauses_move (c ∷ cs) ws vs free same fits =
      let both = or_parts (is_barring (role c)) (list_any (λ c. is_barring (role c)) cs) free in
      let later = alike_behind (spell_all (spell form) cs) ws vs same in
      ((are.moves c both.0).moves (spell_all (spell form) cs ++ ws) (spell_all (spell form) cs ++ vs) later fits.0, clauses_move cs ws vs both.1 same fits.1)

  pub clauses_good : (cs : List C) (ws vs : List (List ℕ)) → NoneBars cs → AllGood form.of cs ws → AllGood form.of cs vs
  clauses_good [] ws vs free good = refl
  clauses_good (c ∷ cs) ws vs free good =
      let both = or_parts (is_barring (role c)) (list_any (λ c. is_barring (role c)) cs) free in
      let each = neither (form.of.bad c (spell_all (spell form) cs ++ ws)) _ good in
      let here = (are.moves c both.0).good (spell_all (spell form) cs ++ ws) (spell_all (spell form) cs ++ vs) each.0 in
      none_of (form.of.bad c (spell_all (spell form) cs ++ vs)) _ here (clauses_good cs ws vs both.1 each.1)

-- a clause of two words fits before every stop
pub record IsTwo {B : Type 0} (listed : Form B) (b : B) : Type 0 where
  pub keyword : List ℕ
  pub value : List ℕ
  pub spelled : spell listed b ≡ keyword ∷ value ∷ []
  pub plain : is_stop value ≡ false
  pub fits : (ws : List (List ℕ)) → first_passes is_stop ws ≡ true → Fits listed b ws

-- the first word of a clause is one of these
pub record BeginsSo {B : Type 0} (listed : Form B) (begins : List (List ℕ)) (b : B) : Type 0 where
  pub keyword : List ℕ
  pub others : List (List ℕ)
  pub spelled : spell listed b ≡ keyword ∷ others
  pub among : is_one_of begins keyword ≡ true

-- forms that stand before a stop: a word and another, or what begins with one of some words
pub record AreListed {B : Type 0} (listed : Form B) (begins : List (List ℕ)) : Type 0 where
  pub moving : Moves listed.of
  pub stops : (b : B) (ws : List (List ℕ)) → Fits listed b ws → first_passes is_stop ws ≡ true
  pub shape : (b : B) (ws : List (List ℕ)) → Fits listed b ws → IsTwo listed b ⊎ BeginsSo listed begins b

-- words up to a stop that are two words before one
two_words : (w u v : List ℕ) (rest vs later : List (List ℕ)) → w ∷ (rest ++ vs) ≡ u ∷ v ∷ later → All (λ x. is_stop x ≡ false) rest → first_or_end is_stop vs ≡ true → first_passes is_stop later ≡ true → is_stop v ≡ false
    → (w ≡ u) × (rest ≡ v ∷ []) × (later ≡ vs)
two_words w u v [] vs later same none stop stops plain =
    let here : vs ≡ v ∷ later = cc in
    let is : is_stop v ≡ true = subst (λ (us : List (List ℕ)). first_or_end is_stop us ≡ true) here stop in
    absurd (cc)
two_words w u v (x ∷ []) vs later same none stop stops plain =
    let first : x ≡ v = cc in
    (cc, ap (λ (y : List ℕ). y ∷ []) first, cc)
two_words w u v (x ∷ y ∷ rest) vs later same none stop stops plain =
    let here : later ≡ y ∷ (rest ++ vs) = cc in
    let is : is_stop y ≡ true = subst (λ (us : List (List ℕ)). first_passes is_stop us ≡ true) here stops in
    let no = All-head (λ x. is_stop x ≡ false) y rest (All-tail (λ x. is_stop x ≡ false) x (y ∷ rest) none) in
    absurd (cc)

never_begins : (begins : List (List ℕ)) (w u : List ℕ) (vs us : List (List ℕ)) → w ∷ vs ≡ u ∷ us → is_one_of begins u ≡ true → is_one_of begins w ≡ false → ⊥
never_begins begins w u vs us same among none =
    let first : w ≡ u = cc in
    let is : is_one_of begins w ≡ true = ap (is_one_of begins) first ∙ among in
    cc

none_bars : (begins : List (List ℕ)) (k : KeptClause) → is_barring (kept_role begins k) ≡ false → is_one_of begins k.keyword ≡ false
none_bars begins k free = ⊎_elim
    (λ (is : is_one_of begins k.keyword ≡ true). let h = rw is at free in absurd (cc))
    (λ (none : is_one_of begins k.keyword ≡ false). none)
    (cases (is_one_of begins k.keyword))

-- clauses of such forms: SUBNET, a listed one, or one that is kept
module _ {B : Type 0} (listed : Form B) (begins : List (List ℕ)) (are : AreListed listed begins) where
  abbrev clause_of : Form (List (List ℕ) ⊎ (B ⊎ KeptClause))
  clause_of = codes "+" ▸ on (codes "SUBNET") (upto is_semicolon) (or_else listed kept_clause)

  -- words that read as no listed clause before one stop read as none before another
  module _ (w : List ℕ) (rest ws vs : List (List ℕ)) (same : Alike ws vs) (none : All (λ x. is_stop x ≡ false) rest) (stop : first_or_end is_stop vs ≡ true) (free : is_one_of begins w ≡ false) (unread : read listed (start (w ∷ (rest ++ ws))) ≡ None) where
    two_read : (b : B) (left : Rest) → w ∷ (rest ++ vs) ≡ spell listed b ++ left.words → first_passes is_stop left.words ≡ true → IsTwo listed b → ⊥
    two_read b left words stops two =
        let here : w ∷ (rest ++ vs) ≡ two.keyword ∷ two.value ∷ left.words = words ∙ ap (λ (us : List (List ℕ)). us ++ left.words) two.spelled in
        let parts = two_words w two.keyword two.value rest vs left.words here none stop stops two.plain in
        let later : first_passes is_stop ws ≡ true = (same is_stop refl).0 ∙ (ap (first_passes is_stop) (sym parts.2) ∙ stops) in
        let now : w ∷ (rest ++ ws) ≡ two.keyword ∷ two.value ∷ ws = ap (λ (us : List (List ℕ)). w ∷ (us ++ ws)) parts.1 ∙ ap (λ (u : List ℕ). u ∷ two.value ∷ ws) parts.0 in
        let spelled : w ∷ (rest ++ ws) ≡ spell listed b ++ ws = now ∙ ap (λ (us : List (List ℕ)). us ++ ws) (sym two.spelled) in
        let behind : Rest = record { words = ws; bad = option_or None (listed.of.bad b ws) } in
        let reads = listed.exact.reads (start (w ∷ (rest ++ ws))) behind b (record { words = spelled; fits = two.fits ws later; bad = refl }) in
        cc

    none_read : (o : Option (B × Rest)) → read listed (start (w ∷ (rest ++ vs))) ≡ o → o ≡ None
    none_read None e = refl
    none_read (Some x) e =
        let k = listed.exact.shows (start (w ∷ (rest ++ vs))) x e in
        absurd (⊎_elim
        (λ (two : IsTwo listed x.0). two_read x.0 x.1 k.words (are.stops x.0 x.1.words k.fits) two)
        (λ (so : BeginsSo listed begins x.0). never_begins begins w so.keyword (rest ++ vs) (so.others ++ x.1.words) (k.words ∙ ap (λ (us : List (List ℕ)). us ++ x.1.words) so.spelled) so.among free)
        (are.shape x.0 x.1.words k.fits))

  pub kept_moves : (k : KeptClause) → is_one_of begins k.keyword ≡ false → MovesAt clause_of.of (inr (inr k))
  unfolding kept_clause
  kept_moves k free = record {
    moves = λ ws vs same fits.
        let kept = fits.1.1 in
        let stop : first_or_end is_stop vs ≡ true = sym (same is_stop refl).1 ∙ kept.1.1 in
        (fits.0, (none_read k.keyword k.rest ws vs same kept.1.0 stop free fits.1.0 (read listed (start (k.keyword ∷ (k.rest ++ vs)))) refl, (kept.0, (kept.1.0, stop))));
    good = λ ws vs none. none;
  }

  pub listed_moves : (b : B) → MovesAt clause_of.of (inr (inl b))
  listed_moves b = record {
    moves = λ ws vs same fits. (sym (alike_behind (spell listed b) ws vs same (is_word (codes "SUBNET")) refl).0 ∙ fits.0, are.moving.moves b ws vs same fits.1);
    good = are.moving.good b;
  }

plain_goes_on : (w : List ℕ) → is_plain w ≡ true → is_stop w ≡ false
plain_goes_on w plain = (or_parts (is_quoted w) (is_stop w) (not-true (is_quoted w || is_stop w) plain)).1

-- a word that passes a test isn't one that doesn't
other_word : (t : List ℕ → Bool) (w word : List ℕ) → t w ≡ true → t word ≡ false → is_word word w ≡ false
other_word t w word passes fails = ⊎_elim
    (λ (is : is_word word w ≡ true). let same : t w ≡ false = ap t ((bytes_eq-Decides w word).0 is) ∙ fails in absurd (cc))
    (λ (other : is_word word w ≡ false). other)
    (cases (is_word word w))

name_goes_on : (w : List ℕ) → is_name w ≡ true → is_stop w ≡ false
name_goes_on w name = rw (other_word is_name w (codes "+") name refl, other_word is_name w (codes ";") name refl) refl

-- a clause of NETS that has its form
abbrev net_words : List (List ℕ)
net_words = codes "ROUTED" ∷ codes "FIXED" ∷ codes "COVER" ∷ codes "NOSHIELD" ∷ []

abbrev special_words : List (List ℕ)
special_words = codes "ROUTED" ∷ codes "FIXED" ∷ codes "COVER" ∷ codes "SHIELD" ∷ codes "RECT" ∷ codes "VIA" ∷ codes "POLYGON" ∷ codes "SHAPE" ∷ codes "MASK" ∷ []

net_status_begins : (status : WiringStatus) → is_one_of net_words (wiring_word status) ≡ true
unfolding wiring_word
net_status_begins routed = refl
net_status_begins fixed = refl
net_status_begins cover = refl

special_status_begins : (status : WiringStatus) → is_one_of special_words (wiring_word status) ≡ true
unfolding wiring_word
special_status_begins routed = refl
special_status_begins fixed = refl
special_status_begins cover = refl

net_wiring_begins : (w : Wiring) → BeginsSo net_listed net_words (inr (inr w))
unfolding net_listed wiring wiring_status
net_wiring_begins w = elim w.kind as (λ kind. BeginsSo net_listed net_words (inr (inr (record w { kind = kind })))) [
  | inl u ↦ record { keyword = codes "NOSHIELD"; others = _; spelled = refl; among = refl }
  | inr status ↦ record { keyword = wiring_word status; others = _; spelled = refl; among = net_status_begins status }
]

net_listed_so : AreListed net_listed net_words
unfolding net_listed
net_listed_so = record {
  moving = net_listed_moves;
  stops = λ b ws fits. fits.0;
  shape = elim [
    | inl w ↦ λ ws fits. inl (record { keyword = codes "USE"; value = w; spelled = refl; plain = plain_goes_on w fits.1.1; fits = λ vs stop. (stop, (refl, fits.1.1)) })
    | inr (inl n) ↦ λ ws fits. inl (record { keyword = codes "NONDEFAULTRULE"; value = n; spelled = refl; plain = name_goes_on n fits.1.1.1; fits = λ vs stop. (stop, (refl, (refl, fits.1.1.1))) })
    | inr (inr w) ↦ λ ws fits. inr (net_wiring_begins w)
  ];
}

abbrev special_wiring_listed : SpecialWiring → SpecialListed
special_wiring_listed w = inr (inr (inr (inr (inr (inr w)))))

special_wiring_begins : (w : SpecialWiring) → BeginsSo special_listed special_words (special_wiring_listed w)
unfolding special_listed special_shape special_wiring wiring_status
special_wiring_begins w = elim w.kind as (λ kind. BeginsSo special_listed special_words (special_wiring_listed (record w { kind = kind }))) [
  | inl n ↦ record { keyword = codes "SHIELD"; others = _; spelled = refl; among = refl }
  | inr status ↦ record { keyword = wiring_word status; others = _; spelled = refl; among = special_status_begins status }
]

special_listed_so : AreListed special_listed special_words
unfolding special_listed special_shape
special_listed_so = record {
  moving = special_listed_moves;
  stops = λ b ws fits. fits.0;
  shape = elim [
    | inl w ↦ λ ws fits. inl (record { keyword = codes "USE"; value = w; spelled = refl; plain = plain_goes_on w fits.1.1; fits = λ vs stop. (stop, (refl, fits.1.1)) })
    | inr (inl w) ↦ λ ws fits. inr (record { keyword = codes "SHAPE"; others = _; spelled = refl; among = refl })
    | inr (inr (inl w)) ↦ λ ws fits. inr (record { keyword = codes "MASK"; others = _; spelled = refl; among = refl })
    | inr (inr (inr (inl x))) ↦ λ ws fits. inr (record { keyword = codes "RECT"; others = _; spelled = refl; among = refl })
    | inr (inr (inr (inr (inl v)))) ↦ λ ws fits. inr (record { keyword = codes "VIA"; others = _; spelled = refl; among = refl })
    | inr (inr (inr (inr (inr (inl x))))) ↦ λ ws fits. inr (record { keyword = codes "POLYGON"; others = _; spelled = refl; among = refl })
    | inr (inr (inr (inr (inr (inr w))))) ↦ λ ws fits. inr (special_wiring_begins w)
  ];
}

-- the clauses of both sections
pub net_clauses : AreClauses net_clause net_role
unfolding net_clause
net_clauses = record {
  body = λ c. drop 1 (spell net_clause c);
  plus = λ c. refl;
  moves = elim [
    | inl tokens ↦ λ free. absurd (cc)
    | inr (inl b) ↦ λ free. listed_moves net_listed net_words net_listed_so b
    | inr (inr k) ↦ λ free. kept_moves net_listed net_words net_listed_so k (none_bars net_words k free)
  ];
}

pub special_clauses : AreClauses special_clause special_role
unfolding special_clause
special_clauses = record {
  body = λ c. drop 1 (spell special_clause c);
  plus = λ c. refl;
  moves = elim [
    | inl tokens ↦ λ free. absurd (cc)
    | inr (inl b) ↦ λ free. listed_moves special_listed special_words special_listed_so b
    | inr (inr k) ↦ λ free. kept_moves special_listed special_words special_listed_so k (none_bars special_words k free)
  ];
}
