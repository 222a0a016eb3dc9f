mod Tallies
pub mod LineParts
pub mod RuleLines
pub mod NumberLines
pub mod ApproachLines
pub mod ShiftLines
pub mod VerdictLines
