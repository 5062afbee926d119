-- A table stays sound over minutes, and where the end of a lawful step is entered.
use Rattle.std.proofs.Common.{ℕ, ◌≤◌, ◌<◌, ◌∙◌}
use Rattle.route_base.specs.Itinerary.{Step, Moves}
use Rattle.route_base.specs.Net.{Net, IsGoodNet, setting_of}
use Rattle.route_base.specs.declared.limits.TheConstants.{HIGHEST_COST}
use Rattle.route_base.specs.declared.types.Request.{Request}
use Rattle.route_base.proofs.Arcs.{takes_time}
use Rattle.plain_search.specs.Inside.Costs.{none, at, Lowers}
use Rattle.plain_search.specs.Inside.Soundness.{IsAsked, IsSoundTable, HasSoundLabel}
use Rattle.plain_search.specs.Inside.CostTable.{cost_of, HasShape}
use Rattle.plain_search.specs.declared.cost_table.CostTable.{CostTable}
use Rattle.plain_search.proofs.Founding.{cost_fits, founded_lower}
use Rattle.plain_search.proofs.Staying.{founded_later}

module _ (net : Net) (r : Request) where
  -- the cost of a label fits
  pub label_fits : (now : ℕ) (table : CostTable) (v t : ℕ) → IsGoodNet net → IsAsked net r → HasSoundLabel net r now table v t
      → cost_of table v t ≤ HIGHEST_COST
  label_fits now table v t good asked label =
      cost_fits (setting_of net) r (takes_time net good) asked.fit (cost_of table) now label.sound.founded v t label.reached.known

  pub sound_later : (table : CostTable) (now later : ℕ) → now ≤ later → IsSoundTable net r now table → IsSoundTable net r later table
  sound_later table now later le sound = record {
    shape = sound.shape;
    founded = founded_later (setting_of net) r (cost_of table) now later le sound.founded;
  }

  pub sound_lower : (old new : CostTable) (now v t x : ℕ) → IsSoundTable net r now old → HasShape old.width old.depart old.until new
      → Lowers (cost_of old) (cost_of new) v t x → r.depart < now → now ≤ t
      → (y : Step) (u k : ℕ) → k < now → cost_of old u k < none
      → Moves (setting_of net) r.until y (at (cost_of old) u k) (record { node = v; minute = t; cost = x })
      → IsSoundTable net r now new
  sound_lower old new now v t x sound same lowers begun later y u k early known move = record {
    shape = record { columns = same.columns ∙ sound.shape.columns; first = same.first ∙ sound.shape.first; last = same.last ∙ sound.shape.last };
    founded = founded_lower (setting_of net) r (cost_of old) (cost_of new) now v t x sound.founded lowers begun later y u k early known move;
  }
