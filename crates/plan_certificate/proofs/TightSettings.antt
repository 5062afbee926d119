-- Tight certificates are so for each setting that stands for another; cheap roads are a matter of the roads alone.
use Rattle.std.proofs.Common.{◌≡◌, ℕ, Option, ◌∙◌, subst}
use Rattle.route_base.specs.Legs.{start_of}
use Rattle.route_base.specs.Matching.{IsInWindow, StandsFor}
use Rattle.route_base.specs.Setting.{Setting, Road}
use Rattle.route_base.specs.declared.types.Request.{Request}
use Rattle.route_base.specs.declared.types.Run.{Run}
use Rattle.route_base.proofs.AgreeingWalks.{walks_too}
use Rattle.potentials.specs.Sums.{AreLeastBounds}
use Rattle.certificate.specs.ByNode.{item_at}
use Rattle.certificate.specs.declared.Certificate.{Certificate}
use Rattle.plan_certificate.specs.CheapRoads.{HasCheapRoads}
use Rattle.plan_certificate.specs.Tight.{IsTight}

module _ (s z : Setting) (window : Run) (r : Request) (same : StandsFor s z window) (within : IsInWindow r window) where
  pub tight_too : (c : Certificate) → IsTight s r c → IsTight z r c
  tight_too c tight =
      let roads : s.road ≡ z.road = λ i a. same.road a i in
      record {
        bounds = subst (λ (road : ℕ → Option Road). AreLeastBounds (record s { road = road }) r.goal.0 (item_at c.bounds)) roads tight.bounds;
        reduced = tight.reduced;
        reached = λ p is. (let can = tight.reached p is in
            (can.0, walks_too s z window same r.until within.1 can.0 (start_of r) p within.0 can.1));
        in_reach = tight.in_reach;
      }

module _ (s z : Setting) (same : (a : ℕ) → s.road a ≡ z.road a) where
  pub cheap_too : HasCheapRoads s → HasCheapRoads z
  cheap_too cheap a road is = cheap a road (same a ∙ is)
