-- Whole numbers and distances, as they are written, and distances in database units
-- (LEF/DEF 5.8 Language Reference, "Units"; the limits are own).
use Rattle.std.specs.Prelude.{◌≡◌, ℕ, ◌+◌, ◌-◌, ◌*◌, ◌/◌, ◌^◌, ◌≤◌, Bool, true, false, not, ◌&&◌, ◌==◌, nat_lt, nat_le, List, [], ◌∷◌, ◌++◌, length, take, drop, Result, Ok, Err, fold, take_while, if◌then◌else◌, ℤ, pos, neg_ℤ, ◌*ℤ◌, ◌-ℤ◌, nat_abs, int_lt}
use Rattle.std.specs.List.{list_all}
use Rattle.std.specs.Char.{is_ascii_digit}
use Rattle.design_model.specs.declared.number.NumFault.{NumFault}
use Rattle.design_model.specs.declared.number.NumFault.TheVariants.{Form, Range}

-- the number that digits spell, most significant first
abbrev pub one_more : ℕ → ℕ → ℕ
one_more n digit = 10 * n + (digit - 48)

abbrev pub decimal_value : List ℕ → ℕ
decimal_value digits = fold one_more 0 digits

-- a text without its sign, and whether that is a minus
abbrev pub unsigned : List ℕ → List ℕ
unsigned [] = []
unsigned (b ∷ bs) = if b == 43 then bs else (if b == 45 then bs else b ∷ bs)

abbrev pub is_minus : List ℕ → Bool
is_minus [] = false
is_minus (b ∷ bs) = b == 45

abbrev pub are_digits : List ℕ → Bool
are_digits bs = nat_lt 0 (length bs) && list_all is_ascii_digit bs

abbrev pub signed : Bool → ℕ → ℤ
signed minus n = if minus then neg_ℤ (pos n) else pos n

-- an optional sign and digits, within plus or minus 2147483647
unfoldable pub whole : List ℕ → Result ℤ NumFault
whole text =
    if are_digits (unsigned text) then (if nat_le (decimal_value (unsigned text)) 2147483647 then Ok (signed (is_minus text) (decimal_value (unsigned text))) else Err Range)
    else Err Form

-- the distance value / 10 ^ places, in microns
pub record Distance : Type 0 where
  pub value : ℤ
  pub places : ℕ

-- what stands before the first point, and behind it
abbrev pub before_point : List ℕ → List ℕ
before_point body = take_while (λ b. not (b == 46)) body

abbrev pub behind_point : List ℕ → List ℕ
behind_point body = drop (length (before_point body) + 1) body

-- digits with at most one point among them, and at most 12 of them behind it
abbrev pub has_distance_form : List ℕ → Bool
has_distance_form body = are_digits (before_point body ++ behind_point body) && nat_le (length (behind_point body)) 12

-- an optional sign and such digits, within plus or minus 1000000
unfoldable pub distance : List ℕ → Result Distance NumFault
distance text =
    let body = unsigned text in
    let size = decimal_value (before_point body ++ behind_point body) in
    let places = length (behind_point body) in
    if has_distance_form body then (if nat_le size (1000000 * 10 ^ places) then Ok (record { value = signed (is_minus text) size; places = places }) else Err Range)
    else Err Form

-- twice what v lies off n / 10 ^ k at u units, times 10 ^ k, without its sign
abbrev pub twice_off : ℤ → ℕ → ℕ → ℤ → ℕ
twice_off n k u v = 2 * nat_abs ((v *ℤ pos (10 ^ k)) -ℤ (n *ℤ pos u))

-- v is nearest to n / 10 ^ k at u units; of two such, the one farther from zero
pub record IsNearest (n : ℤ) (k u : ℕ) (v : ℤ) : Type 0 where
  pub near : twice_off n k u v ≤ 10 ^ k
  pub farthest : (w : ℤ) → twice_off n k u w ≤ 10 ^ k → nat_abs w ≤ nat_abs v

-- v is n / 10 ^ k at u units exactly
abbrev pub IsExact : ℤ → ℕ → ℕ → ℤ → Type 0
IsExact n k u v = v *ℤ pos (10 ^ k) ≡ n *ℤ pos u

-- the whole number nearest to a distance at u units: the only one that is (a law says so)
abbrev pub nearest_size : ℕ → ℕ → ℕ → ℕ
nearest_size n k u = (2 * (n * u) + 10 ^ k) / (2 * 10 ^ k)

abbrev pub nearest : Distance → ℕ → ℤ
nearest d u = signed (int_lt d.value (pos 0)) (nearest_size (nat_abs d.value) d.places u)
