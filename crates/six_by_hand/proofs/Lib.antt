mod Following
mod ByNumber
