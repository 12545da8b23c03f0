pub mod Mentions
pub mod RenamedTrees
pub mod Places
pub mod PutFirsts
pub mod WithMentions
pub mod Numbered
