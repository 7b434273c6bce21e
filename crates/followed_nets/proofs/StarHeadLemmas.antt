-- Heads of nets that list a pin of all components.
use Rattle.std.proofs.Common.{◌≡◌, ◌∙◌, ◌+◌, ◌<◌, ℕ, Bool, true, false, ◌||◌, List, [], ◌∷◌, ◌++◌, append_assoc, drop, filter, flat_map, get_or, length, map, Some, refl, sym, ap}
use Rattle.std.specs.List.{AllByRecursion, list_any}
use Rattle.std.specs.Str.{bytes_eq}
use Rattle.std.proofs.lemmas.List.{drop_more, map-append}
use Rattle.std.proofs.lemmas.Slice.Eq.{bytes_eq-Decides}
use Rattle.def_grammar.specs.Records.{Record}
use Rattle.def_grammar.specs.Terminals.{is_of_all}
use Rattle.design_rules.specs.Boxes.{scale}
use Rattle.lef_grammar.specs.Library.{Library}
use Rattle.lef_grammar.specs.Measures.{Shape}
use Rattle.connection_rules.specs.NetParts.{Part}
use Rattle.kept_nets.specs.Parts.{shapes_in}
use Rattle.net_laws.specs.NetChanges.{is_one_of}
use Rattle.net_laws.specs.NetsTold.{is_of_net, terminals_in, terminals_of}
use Rattle.net_laws.specs.StarNets.{pins_by_one}
use Rattle.followed_nets.specs.Heads.{Head, IsHeadOf}
use Rattle.followed_nets.specs.StarHeads.{AreStarHeads, IsPinsBy, IsStarHead, head_names}
use Rattle.followed_nets.proofs.HeadLemmas.{of_entries}
use Rattle.followed_nets.proofs.TellLemmas.{first_passes, is_entry_of}

one_name : (n m : List ℕ) → Some n ≡ Some m → n ≡ m
one_name n m is = cc

-- the head of a net's entries is of the net
pub of_its_entries : (design : List Record) (net : List ℕ) (r : Record) (rs : List Record) (h : Head) → filter (is_of_net net) design ≡ r ∷ rs → IsHeadOf r (r ∷ rs) h → h.name ≡ net
of_its_entries design net r rs h entries is = one_name h.name net (sym is.net_is ∙ (is_entry_of net r (first_passes (is_of_net net) design r rs entries)).net_is)

pub star_of_entries : (design : List Record) (net : List ℕ) (r : Record) (rs : List Record) (h : Head) → filter (is_of_net net) design ≡ r ∷ rs → IsHeadOf r (r ∷ rs) h → IsStarHead design h
star_of_entries design net r rs h entries is = record {
  head = of_entries design net r rs h entries is;
  entry = r;
  others = rs;
  entries = ap (λ (n : List ℕ). filter (is_of_net n) design) (of_its_entries design net r rs h entries is) ∙ entries;
}

-- heads stay so where the entries of their nets stay, and no other net comes to list a pin of all components
module _ (old new : List Record) where
  still_head : (h : Head) → filter (is_of_net h.name) old ≡ filter (is_of_net h.name) new → IsStarHead old h → IsStarHead new h
  still_head h same star = record {
    head = record { entry = star.head.entry; reads = star.head.reads; of_net = star.head.of_net; lists = star.head.lists ∙ ap (flat_map terminals_of) same };
    entry = star.entry;
    others = star.others;
    entries = sym same ∙ star.entries;
  }

  own_name : (n : List ℕ) (ns : List (List ℕ)) → is_one_of (n ∷ ns) n ≡ true
  own_name n ns = ap (λ (b : Bool). b || is_one_of ns n) ((bytes_eq-Decides n n).1 refl)

  later_name : (n : List ℕ) (ns : List (List ℕ)) (m : List ℕ) → is_one_of ns m ≡ true → is_one_of (n ∷ ns) m ≡ true
  later_name n ns m h = either (bytes_eq n m)
    where
      either : (b : Bool) → (b || is_one_of ns m) ≡ true
      either true = refl
      either false = h

  still_heads : (hs : List Head) → ((net : List ℕ) → is_one_of (head_names hs) net ≡ true → filter (is_of_net net) old ≡ filter (is_of_net net) new) → AllByRecursion (IsStarHead old) hs → AllByRecursion (IsStarHead new) hs
  still_heads [] same are = tt
  still_heads (h ∷ hs) same are = (still_head h (same h.name (own_name h.name (head_names hs))) are.0, still_heads hs (λ net there. same net (later_name h.name (head_names hs) net there)) are.1)

  pub star_heads_stay : (hs : List Head) → ((net : List ℕ) → is_one_of (head_names hs) net ≡ true → filter (is_of_net net) old ≡ filter (is_of_net net) new)
      → ((net : List ℕ) → list_any is_of_all (terminals_in old net) ≡ false → list_any is_of_all (terminals_in new net) ≡ false) → AreStarHeads old hs → AreStarHeads new hs
  star_heads_stay hs same no_more are = record {
    names = record {
      apart = are.names.apart;
      all = λ net out. no_more net (are.names.all net out);
      own = λ net there. ap (λ (rs : List Record). list_any is_of_all (flat_map terminals_of rs)) (sym (same net there)) ∙ are.names.own net there;
    };
    each = still_heads hs same are.each;
  }

-- one more of some names
pub one_more_so_named : {A : Type 0} (name : A → List ℕ) (xs : List A) (names : List (List ℕ)) (i : ℕ) (n : List ℕ) (x : A) → i < length names → n ≡ get_or names i n → name x ≡ n → map name xs ++ drop i names ≡ names
    → map name (xs ++ x ∷ []) ++ drop (i + 1) names ≡ names
one_more_so_named name xs names i n x below is named so_far =
    let here : drop i names ≡ n ∷ drop (i + 1) names = drop_more names i n below ∙ ap (λ (m : List ℕ). m ∷ drop (i + 1) names) (sym is) in
    ap (λ (l : List (List ℕ)). l ++ drop (i + 1) names) (map-append name xs (x ∷ []))
    ∙ append_assoc (map name xs) (name x ∷ []) (drop (i + 1) names)
    ∙ ap (λ (m : List ℕ). map name xs ++ m ∷ drop (i + 1) names) named
    ∙ ap (λ (l : List (List ℕ)). map name xs ++ l) (sym here)
    ∙ so_far

-- the shapes of its pins by a component, under its name
pub told_pins : (library : Library) (design : List Record) (component : List ℕ) (h : Head) → IsStarHead design h → (name : List ℕ) (shapes : List Shape) (pins : List Part) → name ≡ h.name → shapes ≡ shapes_in pins
    → pins ≡ pins_by_one library design (scale design) h.name component → IsPinsBy library design component (record { name = name; shapes = shapes })
told_pins library design component h star name shapes pins named shapes_are pins_are = record {
  shapes_are = shapes_are ∙ ap shapes_in pins_are ∙ ap (λ (n : List ℕ). shapes_in (pins_by_one library design (scale design) n component)) (sym named);
  entry = star.entry;
  others = star.others;
  entries = ap (λ (n : List ℕ). filter (is_of_net n) design) named ∙ star.entries;
}

-- the next of a list of which some are left
next_is : {A : Type 0} (xs : List A) (i : ℕ) (x : A) → i < length xs → x ≡ get_or xs i x → drop i xs ≡ x ∷ drop (i + 1) xs
next_is xs i x below is = drop_more xs i x below ∙ ap (λ y. y ∷ drop (i + 1) xs) (sym is)

pub with_first : {A B : Type 0} (P : B → Type 0) (view : A → B) (xs : List A) (i : ℕ) (x : A) → i < length xs → x ≡ get_or xs i x → AllByRecursion P (map view (drop i xs))
    → P (view x) × AllByRecursion P (map view (drop (i + 1) xs))
with_first P view xs i x below is all = let both = rw (next_is xs i x below is) at all in (both.0, both.1)

-- one more that has the name of the next
pub one_more_told : {A B C : Type 0} (view : A → B) (own : B → List ℕ) (name : C → List ℕ) (cs : List C) (xs : List A) (i : ℕ) (x : A) (c : C) → i < length xs → x ≡ get_or xs i x → name c ≡ own (view x)
    → map name cs ++ map own (map view (drop i xs)) ≡ map own (map view xs) → map name (cs ++ c ∷ []) ++ map own (map view (drop (i + 1) xs)) ≡ map own (map view xs)
one_more_told view own name cs xs i x c below is named so_far =
    let left = map own (map view (drop (i + 1) xs)) in
    ap (λ (l : List (List ℕ)). l ++ left) (map-append name cs (c ∷ []))
    ∙ append_assoc (map name cs) (name c ∷ []) left
    ∙ ap (λ (n : List ℕ). map name cs ++ n ∷ left) named
    ∙ ap (λ l. map name cs ++ map own (map view l)) (sym (next_is xs i x below is))
    ∙ so_far
