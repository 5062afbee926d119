-- What the check of labels keeps, which is no law (source: own).
pub mod GoodLabels
pub mod Reducing
