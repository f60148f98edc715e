pub mod Candidate
pub mod OneTable
