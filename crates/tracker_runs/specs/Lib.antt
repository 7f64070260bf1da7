pub mod Run
pub mod RankLaws
