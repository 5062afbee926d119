pub mod CheapArcs
