-- The entries of a net in the order of the text, by where they begin.
use Rattle.std.proofs.Common.{◌≡◌, ◌∙◌, ◌≤◌, ◌<◌, ◌+◌, ℕ, suc, Bool, true, false, ◌&&◌, ◌||◌, List, [], ◌∷◌, ◌++◌, filter, length, map, Option, Some, None, refl, sym, ap, subst, arith, if◌then◌else◌}
use Rattle.std.specs.Prelude.{zip, Ok}
use Rattle.std.specs.Option.{option_map, option_to_list}
use Rattle.std.specs.Str.{bytes_eq}
use Rattle.std.proofs.lemmas.Slice.Eq.{bytes_eq-Decides}
use Rattle.design_model.specs.declared.mode.Mode.TheVariants.{Top}
use Rattle.design_model.specs.declared.mode.Section.{Section}
use Rattle.design_model.specs.declared.mode.Section.TheVariants.{Nets, SpecialNets}
use Rattle.design_model.specs.EnumWords.{section_word}
use Rattle.statement_model.specs.Boundaries.{is_whole, statements}
use Rattle.statement_model.specs.Reading.{pos_of}
use Rattle.statement_model.specs.Tokens.{Token, tokens}
use Rattle.lefdef_tokens.specs.Laws.{StandIn, TokensAreSlices}
use Rattle.statement_reader.specs.ReadingLaws.{RecordsAreLocated}
use Rattle.def_grammar.specs.Located.{entry_at, is_entry, is_named, located}
use Rattle.def_grammar.specs.Records.{Record, def, def_ending, end_section, entry, entry_of, in_properties, name_of, read_def, section_of, top}
use Rattle.def_splice.proofs.LocatedStatements.{located_is}
use Rattle.net_laws.specs.NetsTold.{is_of_net}
use Rattle.design_text.specs.NamedEntries.{NamedOnce}
use Rattle.followed_nets.specs.Entries.{Precedes}
use Rattle.followed_nets.proofs.OneEntry.{first_alone, is_in, of_either, second_alone}

abbrev Found : Type 0
Found = List Token × Record

-- statements begin one after the other, none before a place
abbrev From : ℕ → List Found → Type 0
From k [] = Unit {0}
From k (x ∷ xs) = (k ≤ pos_of x.0) × From (suc (pos_of x.0)) xs

abbrev Begin : ℕ → List (List Token) → Type 0
Begin k [] = Unit {0}
Begin k (s ∷ ss) = (k ≤ pos_of s) × Begin (suc (pos_of s)) ss

zipped : (k : ℕ) (ss : List (List Token)) (ds : List Record) → Begin k ss → From k (zip ss ds)
zipped k [] ds b = tt
zipped k (s ∷ ss) [] b = tt
zipped k (s ∷ ss) (d ∷ ds) b = (b.0, zipped (suc (pos_of s)) ss ds b.1)

-- the first tokens of a statement, which began at a place or behind it, and end before another one
abbrev Begun : ℕ → ℕ → List Token → Type 0
Begun k at [] = Unit {0}
Begun k at (b ∷ bs) = (k ≤ b.pos) × (b.pos < at)

begun_more : (k at : ℕ) (before : List Token) (p : Token) → Begun k at before → k ≤ at → at ≤ p.pos → 0 < length p.bytes → Begun k (p.pos + length p.bytes) (before ++ p ∷ [])
begun_more k at [] p begun le low some = (omega (arith, le, low), omega (arith, some))
begun_more k at (b ∷ bs) p begun le low some = (begun.0, omega (arith, begun.1, low, some))

starts : (k at : ℕ) (before : List Token) (p : Token) → Begun k at (before ++ p ∷ []) → (k ≤ pos_of (before ++ p ∷ [])) × (pos_of (before ++ p ∷ []) < at)
starts k at [] p begun = begun
starts k at (b ∷ bs) p begun = begun

module _ (text : List ℕ) where
  one_by_one : (k at : ℕ) (before ps : List Token) → Begun k at before → k ≤ at → StandIn text at ps → Begin k (statements def_ending before ps).0
  unfolding statements
  one_by_one k at before [] begun le stand = tt
  one_by_one k at before (p ∷ ps) begun le stand =
      let end = p.pos + length p.bytes in
      let now = begun_more k at before p begun le stand.0 stand.1 in
      let start = starts k end before p now in
      either (is_whole def_ending (before ++ p ∷ [])) refl start
      (one_by_one (suc (pos_of (before ++ p ∷ []))) end [] ps tt (omega (arith, start.1)) stand.4)
      (one_by_one k end (before ++ p ∷ []) ps now (omega (arith, le, stand.0)) stand.4)
    where
      either : (b : Bool) → is_whole def_ending (before ++ p ∷ []) ≡ b → (k ≤ pos_of (before ++ p ∷ [])) × (pos_of (before ++ p ∷ []) < p.pos + length p.bytes)
          → Begin (suc (pos_of (before ++ p ∷ []))) (statements def_ending [] ps).0 → Begin k (statements def_ending (before ++ p ∷ []) ps).0 → Begin k (statements def_ending before (p ∷ ps)).0
      either true is start whole goes = rw is (start.0, whole)
      either false is start whole goes = rw is goes

-- the entries of a section are apart from those of another one, and a net's are those of both
module _ (name : List ℕ) (s t : Section) (apart : (r : Record) → is_in s name r ≡ true → is_in t name r ≡ false) (either : (r : Record) → is_of_net name r ≡ (is_in s name r || is_in t name r)) where
  abbrev of : Option Found → List Record
  of found = option_to_list (option_map (λ (x : Found). x.1) found)

  abbrev says : List Found → List Record
  says xs = map (λ (x : Found). x.1) xs

  abbrev left : (Record → Bool) → List Found → List Record
  left test xs = filter test (says xs)

  after : (k : ℕ) (xs : List Found) → From k xs → (y : Found) → entry_at s name xs ≡ Some y → k ≤ pos_of y.0
  after k [] from y is = absurd (cc)
  after k (x ∷ xs) from y is = one (is_in s name x.1) is (after (suc (pos_of x.0)) xs from.1 y)
    where
      one : (b : Bool) → (if b then Some x else entry_at s name xs) ≡ Some y → (entry_at s name xs ≡ Some y → suc (pos_of x.0) ≤ pos_of y.0) → k ≤ pos_of y.0
      one true h later = let same : x ≡ y = cc in subst (λ (z : Found). k ≤ pos_of z.0) same from.0
      one false h later = omega (arith, from.0, later h)

  tail_none : {A : Type 0} (a : A) (l : List A) → a ∷ l ≡ a ∷ [] → l ≡ []
  tail_none a [] h = refl
  tail_none a (b ∷ l) h = absurd (cc)

  ordered : (k : ℕ) (xs : List Found) → From k xs → filter (is_in s name) (says xs) ≡ of (entry_at s name xs) → filter (is_in t name) (says xs) ≡ of (entry_at t name xs)
      → Precedes (entry_at s name xs) (entry_at t name xs) → filter (is_of_net name) (says xs) ≡ of (entry_at s name xs) ++ of (entry_at t name xs)
  ordered k [] from ps qs first = refl
  ordered k (x ∷ xs) from ps qs first = one (is_in s name x.1) (is_in t name x.1) refl refl (either x.1) ps qs first (ordered (suc (pos_of x.0)) xs from.1)
    where
      behind : (found : Option Found) → entry_at s name xs ≡ found → left (is_in s name) xs ≡ of found → Precedes found (Some x) → x.1 ∷ left (is_in s name) xs ≡ of found ++ x.1 ∷ []
      behind None is ps first = ap (λ (l : List Record). x.1 ∷ l) ps
      behind (Some y) is ps first = absurd (omega (arith, first, after (suc (pos_of x.0)) xs from.1 y is))

      one : (p q : Bool) → is_in s name x.1 ≡ p → is_in t name x.1 ≡ q → is_of_net name x.1 ≡ (p || q)
          → (if p then x.1 ∷ left (is_in s name) xs else left (is_in s name) xs) ≡ of (if p then Some x else entry_at s name xs)
          → (if q then x.1 ∷ left (is_in t name) xs else left (is_in t name) xs) ≡ of (if q then Some x else entry_at t name xs)
          → Precedes (if p then Some x else entry_at s name xs) (if q then Some x else entry_at t name xs)
          → (left (is_in s name) xs ≡ of (entry_at s name xs) → left (is_in t name) xs ≡ of (entry_at t name xs) → Precedes (entry_at s name xs) (entry_at t name xs) → left (is_of_net name) xs ≡ of (entry_at s name xs) ++ of (entry_at t name xs))
          → (if is_of_net name x.1 then x.1 ∷ left (is_of_net name) xs else left (is_of_net name) xs) ≡ of (if p then Some x else entry_at s name xs) ++ of (if q then Some x else entry_at t name xs)
      one true true is_s is_t r ps qs first later = absurd (let none = apart x.1 is_s in cc)
      one true false is_s is_t r ps qs first later =
          rw r (ap (λ (l : List Record). x.1 ∷ l) (second_alone (is_in s name) (is_in t name) (is_of_net name) either (says xs) (tail_none x.1 (left (is_in s name) xs) ps) ∙ qs))
      one false true is_s is_t r ps qs first later =
          rw r
          (ap (λ (l : List Record). x.1 ∷ l) (first_alone (is_in s name) (is_in t name) (is_of_net name) either (says xs) (tail_none x.1 (left (is_in t name) xs) qs))
          ∙ behind (entry_at s name xs) refl ps first)
      one false false is_s is_t r ps qs first later = rw r (later ps qs first)

-- an entry is of one section
words_apart : (w : List ℕ) (n : Bool) → (bytes_eq w (section_word Nets) && n) ≡ true → (bytes_eq w (section_word SpecialNets) && n) ≡ false
unfolding Rattle.design_model.specs.EnumWords.section_word
words_apart w n is = one (bytes_eq w (section_word Nets)) refl is
  where
    one : (b : Bool) → bytes_eq w (section_word Nets) ≡ b → (b && n) ≡ true → (bytes_eq w (section_word SpecialNets) && n) ≡ false
    one true same h = ap (λ (v : List ℕ). bytes_eq v (section_word SpecialNets) && n) ((bytes_eq-Decides w (section_word Nets)).0 same)
    one false same h = absurd (cc)

nets_apart : (name : List ℕ) (r : Record) → is_in Nets name r ≡ true → is_in SpecialNets name r ≡ false
nets_apart name (top t) h = refl
nets_apart name (in_properties p) h = refl
nets_apart name (end_section s) h = refl
nets_apart name (entry e) h = words_apart (section_word (section_of e)) (is_named name (name_of e)) h

flipped : (a b : Bool) → (a ≡ true → b ≡ false) → b ≡ true → a ≡ false
flipped true b others h = absurd (let is = others refl in cc)
flipped false b others h = refl

or_turned : (a b : Bool) → (a || b) ≡ (b || a)
or_turned true true = refl
or_turned true false = refl
or_turned false true = refl
or_turned false false = refl

-- the entries of a net, by those that are found in the two sections
module _ (once : NamedOnce) (slices : TokensAreSlices) (locate : RecordsAreLocated def) (text : List ℕ) (design : List Record) (reads : read_def text ≡ Ok design) (name : List ℕ) where
  abbrev there : List Found
  there = located text design

  all_said : map (λ (x : Found). x.1) there ≡ design
  all_said = ap (map (λ (x : Found). x.1)) (located_is locate text design reads) ∙ locate Top text design reads

  from_start : From 0 there
  from_start = zipped 0 (statements def_ending [] (tokens text).pieces).0 design (one_by_one text 0 0 [] (tokens text).pieces tt (omega (arith)) (slices text))

  alone : (s : Section) → filter (is_in s name) (map (λ (x : Found). x.1) there) ≡ option_to_list (option_map (λ (x : Found). x.1) (entry_at s name there))
  alone s = ap (filter (is_in s name)) all_said ∙ once text design reads s name

  pub nets_first : Precedes (entry_at Nets name there) (entry_at SpecialNets name there)
      → option_to_list (option_map (λ (x : Found). x.1) (entry_at Nets name there)) ++ option_to_list (option_map (λ (x : Found). x.1) (entry_at SpecialNets name there)) ≡ filter (is_of_net name) design
  nets_first first = sym (ordered name Nets SpecialNets (nets_apart name) (of_either name) 0 there from_start (alone Nets) (alone SpecialNets) first) ∙ ap (filter (is_of_net name)) all_said

  pub special_nets_first : Precedes (entry_at SpecialNets name there) (entry_at Nets name there)
      → option_to_list (option_map (λ (x : Found). x.1) (entry_at SpecialNets name there)) ++ option_to_list (option_map (λ (x : Found). x.1) (entry_at Nets name there)) ≡ filter (is_of_net name) design
  special_nets_first first =
      sym
      (ordered name SpecialNets Nets (λ (r : Record). flipped (is_in Nets name r) (is_in SpecialNets name r) (nets_apart name r))
      (λ (r : Record). of_either name r ∙ or_turned (is_in Nets name r) (is_in SpecialNets name r)) 0 there from_start (alone SpecialNets) (alone Nets) first)
      ∙ ap (filter (is_of_net name)) all_said
