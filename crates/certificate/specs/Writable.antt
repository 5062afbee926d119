-- Certificates that can be written, and the bytes that are the text of one (source: own).
use Rattle.std.specs.Prelude.{◌≡◌, ◌≢◌, ℕ, ◌≤◌, List, [], All}
use Rattle.route_base.specs.Legs.{HasNoNeighbouringWaits}
use Rattle.route_base.specs.declared.limits.TheConstants.{LAST_INSTANT, MOST_ARCS, MOST_NODES}
use Rattle.route_base.specs.declared.types.Leg.{Leg}
use Rattle.route_base.specs.declared.types.Leg.TheVariants.{Drive, Wait}
use Rattle.route_base.specs.declared.types.NodeId.{NodeId}
use Rattle.cost_functions.specs.Pieces.{ArePieces}
use Rattle.cost_functions.specs.declared.TheConstants.{HIGHEST_PIECE_COST}
use Rattle.certificate.specs.ByNode.{AreRising}
use Rattle.certificate.specs.CertificateText.{certificate_text_of}
use Rattle.certificate.specs.declared.Certificate.{Certificate}
use Rattle.certificate.specs.declared.limits.TheConstants.{LONGEST_BOUND}

-- the node's number is within the range of the format
abbrev pub IsWritableNode : NodeId → Type 0
IsWritableNode v = (1 ≤ v.0) × (v.0 ≤ MOST_NODES)

-- the arc's number is within the range of the format, or the wait is, which isn't empty
abbrev pub IsWritableLeg : Leg → Type 0
IsWritableLeg (Drive arc) = (1 ≤ arc.0) × (arc.0 ≤ MOST_ARCS)
IsWritableLeg (Wait minutes) = (1 ≤ minutes) × (minutes ≤ LAST_INSTANT)

-- every number is within the range of the format, no two neighbouring legs are waits, nodes rise, and each function has pieces
pub record IsWritable (c : Certificate) : Type 0 where
  pub arrivals : All (λ route. route.pair.arrival ≤ LAST_INSTANT) c.routes
  pub costs : All (λ route. route.pair.cost ≤ HIGHEST_PIECE_COST) c.routes
  pub legs : All (λ route. All IsWritableLeg route.legs) c.routes
  pub waits : All (λ route. HasNoNeighbouringWaits route.legs) c.routes
  pub bound_nodes : All (λ e. IsWritableNode e.0) c.bounds
  pub bound_minutes : All (λ e. e.1.minutes ≤ LONGEST_BOUND) c.bounds
  pub bound_costs : All (λ e. e.1.cost ≤ HIGHEST_PIECE_COST) c.bounds
  pub rising_bounds : AreRising c.bounds
  pub function_nodes : All (λ e. IsWritableNode e.0) c.functions
  pub pieces : All (λ e. ArePieces e.1) c.functions
  pub filled : All (λ e. e.1 ≢ []) c.functions
  pub rising_functions : AreRising c.functions

-- the certificate can be written, and the bytes are its text
pub record IsCertificateText (bytes : List ℕ) (c : Certificate) : Type 0 where
  pub writable : IsWritable c
  pub text : certificate_text_of c ≡ bytes

-- the bytes are the text of no certificate
abbrev pub IsNoCertificateText : List ℕ → Type 0
IsNoCertificateText bytes = (c : Certificate) → IsCertificateText bytes c → ⊥
