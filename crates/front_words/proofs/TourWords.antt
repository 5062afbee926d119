-- The words of a tour make the tour, by itself or under a rule.
use Rattle.std.proofs.Common.{◌≡◌, ℕ, Option, Some, None, List, [], ap₂, refl, ◌∙◌}
use Rattle.std.specs.Prelude.{option_and_then, option_map}
use Rattle.front_words.specs.Commands.{Tour}
use Rattle.front_words.specs.Forms.{Value}
use Rattle.front_words.specs.Inside.{tour_values}
use Rattle.front_words.specs.Tour.{tour_of, tour_under}
use Rattle.front_words.specs.Usages.{count_in}
use Rattle.front_words.proofs.Made.{in_front}

-- the number that an option's value gives is that of a value
record Counts (found : Option (Option Value)) (number : Option ℕ) : Type 0 where
  value : Option Value
  is : found ≡ Some value
  same : count_in value ≡ number

counts : (found : Option (Option Value)) (number : Option ℕ) → option_map count_in found ≡ Some number → Counts found number
counts (Some value) number e = record { value = value; is = refl; same = cc }
counts None number e = cc

-- what the values make where each is there
pub tour_made : (tour : Tour) (places : Option (List Value)) (drive rest : Option (Option Value)) (minutes pause : Option ℕ)
    → places ≡ Some (tour_values tour) → option_map count_in drive ≡ Some minutes → option_map count_in rest ≡ Some pause
    → option_and_then (λ vs. option_and_then (tour_of vs) (in_front drive (in_front rest (Some [])))) places ≡ Some (tour_under tour minutes pause)
tour_made tour places drive rest minutes pause e f g =
    let d = counts drive minutes f in
    let r = counts rest pause g in
    ap₂ (λ (o : Option (List Value)) (os : Option (List (Option Value))). option_and_then (λ vs. option_and_then (tour_of vs) os) o) e
    (ap₂ (λ (v w : Option (Option Value)). in_front v (in_front w (Some []))) d.is r.is)
    ∙ ap₂ (λ (m n : Option ℕ). Some (tour_under tour m n)) d.same r.same
