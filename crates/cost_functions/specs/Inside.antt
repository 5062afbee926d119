-- Machinery of the builder, which is no law: the law of its functions is in Pieces (source: own).
pub mod JoinedPieces
